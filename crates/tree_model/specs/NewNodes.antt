-- A node that a caller makes in a directory, after open(2), mkdir(2), umask(2) and, for default lists, draft POSIX.1e. That the
-- umask plays no part where there is a default list is this project's own.
use Rattle.std.specs.Prelude.{ℕ, ◌-◌, Bool, true, false, List, [], ◌∷◌, Option, Some, None, bit_and, option_map, if◌then◌else◌}
use Rattle.label_core.specs.declared.subject.Subject.{Subject}
use Rattle.acl_core.specs.declared.cred.Cred.{Cred}
use Rattle.acl_core.specs.declared.entry.Entry.{Entry}
use Rattle.acl_core.specs.Mode.{minimal_list, inherited_list}
use Rattle.sys_types.specs.declared.node.Kind.{Kind}
use Rattle.sys_types.specs.declared.rules.Rule.{Rule}
use Rattle.sys_types.specs.declared.rules.Rule.TheVariants as rule
use Rattle.access_rule.specs.Access.{first, line, refusal}
use Rattle.tree_model.specs.Tree.{NodeRecord, is_dir}

-- the bits of a mode that a umask does not have; both are numbers of 16 bits
abbrev pub without : ℕ → ℕ → ℕ
without mode umask = bit_and mode (65535 - umask)

-- the list of a new node: what the directory's default list hands down, or else the mode's without the bits of the umask
abbrev pub new_list : Option (List Entry) → ℕ → ℕ → List Entry
new_list None umask mode = minimal_list (without mode umask)
new_list (Some default) umask mode = inherited_list default mode

-- a new directory takes the default list too
abbrev pub new_default : Kind → Option (List Entry) → Option (List Entry)
new_default kind default = if is_dir kind then default else None

-- the new node: of the maker's uid and active element, and of the directory's group
abbrev pub new_in : Cred → Subject → ℕ → NodeRecord → Kind → ℕ → NodeRecord
new_in cred subject umask dir kind mode = record {
  kind = kind;
  attrs = record {
    element = subject.active;
    owner = cred.uid;
    group = dir.attrs.group;
    list = new_list dir.default umask mode;
    is_dir = is_dir kind;
  };
  default = new_default kind dir.default;
  contents = [];
}

-- the first rule by which a directory, in a tree of so many nodes, takes no new node
abbrev pub make_rule : Cred → Subject → NodeRecord → Bool → Option Rule
make_rule cred subject dir full = first (
    refusal cred subject dir.attrs false true false
    ∷ line full rule.NodeRoom
    ∷ [])

-- the same of what is at a path
abbrev pub make_rule_in : Cred → Subject → Option NodeRecord → Bool → Option Rule
make_rule_in cred subject None full = None
make_rule_in cred subject (Some dir) full = make_rule cred subject dir full

abbrev pub new_in_dir : Cred → Subject → ℕ → Option NodeRecord → Kind → ℕ → Option NodeRecord
new_in_dir cred subject umask dir kind mode = option_map (λ d. new_in cred subject umask d kind mode) dir
