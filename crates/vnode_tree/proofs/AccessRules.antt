-- The rules that deny access to a node.
use Rattle.std.proofs.Common.{◌≡◌, Bool, Option, Some, None, option_map, refl, ap}
use Rattle.std.specs.Result.{result_err}
use Rattle.label_core.specs.declared.subject.Subject.{Subject}
use Rattle.acl_core.specs.declared.cred.Cred.{Cred}
use Rattle.sys_types.specs.declared.rules.Rule.{Rule}
use Rattle.access_rule.specs.Access.{refusal, allowed_unless}
use Rattle.access_rule.specs.declared.Attrs.{Attrs}
use Rattle.tree_model.specs.Paths.{access_rule}
use Rattle.tree_model.specs.Tree.{NodeRecord}

-- the rule that denies access is that of what access depends on
pub access_is : (o : Option NodeRecord) (cred : Cred) (label : Subject) (attrs : Attrs) (read write exec : Bool)
    → option_map (λ (r : NodeRecord). r.attrs) o ≡ Some attrs → access_rule cred label o read write exec ≡ refusal cred label attrs read write exec
access_is None cred label attrs read write exec is = absurd (let no : None ≡ Some attrs = is in cc)
access_is (Some r) cred label attrs read write exec is =
    let same : r.attrs ≡ attrs = let both : Some r.attrs ≡ Some attrs = is in cc in
    ap (λ (a : Attrs). refusal cred label a read write exec) same

-- an answer tells the rule that it is made from
pub rule_told : (o : Option Rule) → result_err (allowed_unless o) ≡ o
rule_told None = refl
rule_told (Some ruled) = refl
