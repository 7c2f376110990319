-- Which rule denies a caller the access to a node: labels after mac_mls(4), lists after draft
-- POSIX.1e, 23.1.5.
use Rattle.std.specs.Prelude.{Bool, not, ◌&&◌, ◌||◌, ◌==◌, List, [], ◌∷◌, Option, Some, None, Result, Ok, Err, if◌then◌else◌}
use Rattle.label_core.specs.Element.{dom}
use Rattle.label_core.specs.declared.subject.Subject.{Subject}
use Rattle.acl_core.specs.declared.perm.Perm.{Perm}
use Rattle.acl_core.specs.declared.cred.Cred.{Cred}
use Rattle.acl_core.specs.Deciding.{grants, has_exec}
use Rattle.sys_types.specs.declared.rules.Rule.{Rule}
use Rattle.sys_types.specs.declared.rules.Rule.TheVariants as rule
use Rattle.access_rule.specs.declared.Attrs.{Attrs}

-- the uid 0 makes a superuser
abbrev pub is_superuser : Cred → Bool
is_superuser cred = cred.uid == 0

-- The list refuses a superuser nothing but to execute a file of which no entry has x. It refuses
-- every other caller what it does not grant.
abbrev pub list_refuses : Cred → Attrs → Perm → Bool
list_refuses cred node want =
    if is_superuser cred then want.exec && not node.is_dir && not (has_exec node.list)
    else not (grants node.list cred node.owner node.group want)

-- the rule by which a list refuses: to execute a directory is to search it
abbrev pub list_rule : Attrs → Bool → Rule
list_rule node exec = if node.is_dir && exec then rule.Search else rule.List

abbrev pub line : Bool → Rule → Option Rule
line condition denied = if condition then Some denied else None

-- the first rule that holds
abbrev pub first : List (Option Rule) → Option Rule
first [] = None
first (None ∷ ls) = first ls
first (Some denied ∷ ls) = Some denied

-- the first rule that denies, or none: the label comes before the list
abbrev pub refusal : Cred → Subject → Attrs → Bool → Bool → Bool → Option Rule
refusal cred subject node read write exec = first (
    line ((read || exec) && not (dom subject.active node.element)) rule.LabelRead
    ∷ line (write && not (dom node.element subject.active)) rule.LabelWrite
    ∷ line (list_refuses cred node (record { read = read; write = write; exec = exec })) (list_rule node exec)
    ∷ [])

abbrev pub allowed_unless : Option Rule → Result (Unit {0}) Rule
allowed_unless None = Ok tt
allowed_unless (Some denied) = Err denied
