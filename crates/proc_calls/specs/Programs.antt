-- What the checks of execve(2) come to, and the program that they find.
use Rattle.std.specs.Prelude.{◌≡◌, ℕ, false, true, not, List, [], ◌∷◌, Option, None, is_none}
use Rattle.label_core.specs.declared.subject.Subject.{Subject}
use Rattle.acl_core.specs.declared.cred.Cred.{Cred}
use Rattle.sys_types.specs.declared.image.Image.{Image}
use Rattle.sys_types.specs.declared.rules.Rule.TheVariants as rule
use Rattle.tree_model.specs.Tree.{NodeRecord}
use Rattle.tree_model.specs.Paths.{path_at, access_rule}
use Rattle.system_model.specs.State.{View}
use Rattle.system_model.specs.Looks.{end_of}
use Rattle.system_model.specs.ProcCalls.{is_plain_file, image_of, program_at, exec_row}
use Rattle.system_model.specs.Rows.{Check, deny, deny_by, first}

-- the checks of a node, by what it is
abbrev pub exec_checks : Cred → Subject → Option NodeRecord → List (Option Check)
exec_checks cred label what =
    deny (not (is_plain_file what)) rule.NotFile
    ∷ deny_by (access_rule cred label what false false true)
    ∷ deny (is_none (image_of what)) rule.Image
    ∷ []

-- No rule denies the call, and this is the program.
pub record IsProgram (v : View) (slot : ℕ) (path args : List ℕ) (image : Image) : Type 0 where
  pub allowed : first (exec_row v slot path args).checks ≡ None
  pub program : program_at v (path_at (end_of v slot path)) ≡ image
