-- The rules of a path, part by part, after path_resolution of POSIX.1, 4.13, and open(2). Their order is this project's own.
use Rattle.std.specs.Prelude.{ℕ, Bool, true, false, not, ◌&&◌, ◌==◌, List, [], ◌∷◌, ◌++◌, length, nat_lt, Option, Some, None, is_some, if◌then◌else◌}
use Rattle.label_core.specs.declared.subject.Subject.{Subject}
use Rattle.acl_core.specs.declared.cred.Cred.{Cred}
use Rattle.sys_types.specs.declared.rules.Rule.{Rule}
use Rattle.sys_types.specs.declared.rules.Rule.TheVariants as rule
use Rattle.access_rule.specs.Access.{first, line, refusal}
use Rattle.tree_model.specs.Tree.{NodeRecord, Tree, WalkEnd, walk, is_dir_record, is_parent, parent_of, steps, begin_at}
use Rattle.tree_model.specs.Tree as tree

-- the first rule by which a caller may not read, write or execute what is at a path
abbrev pub access_rule : Cred → Subject → Option NodeRecord → Bool → Bool → Bool → Option Rule
access_rule cred subject None read write exec = None
access_rule cred subject (Some node) read write exec = refusal cred subject node.attrs read write exec

-- the rule by which a caller may not search a directory
abbrev pub search_rule : Cred → Subject → Option NodeRecord → Option Rule
search_rule cred subject node = access_rule cred subject node false false true

abbrev pub is_last : List (List ℕ) → Bool
is_last [] = true
is_last (part ∷ parts) = false

-- the node at a name of a directory is absent
abbrev pub is_absent : Tree → List (List ℕ) → List ℕ → Bool
is_absent tree dir name = not (is_some (tree (dir ++ name ∷ [])))

-- The lines of the parts of a path from a directory, in order: a part is not too long, it is looked for in a directory that
-- may be searched, and it is there, unless it is the last.
unfoldable pub part_lines : Tree → Cred → Subject → List (List ℕ) → List (List ℕ) → List (Option Rule)
part_lines tree cred subject here [] = []
part_lines tree cred subject here (part ∷ parts) =
    line (nat_lt 255 (length part)) rule.NameLong
    ∷ line (not (is_dir_record (tree here))) rule.NotDir
    ∷ search_rule cred subject (tree here)
    ∷ (if is_parent part then part_lines tree cred subject (parent_of here) parts
    else line (is_absent tree here part && not (is_last parts)) rule.NoEntry
    ∷ part_lines tree cred subject (here ++ part ∷ []) parts)

-- the first rule of a path that denies, or none
abbrev pub path_rule : Tree → Cred → Subject → List (List ℕ) → List ℕ → Option Rule
path_rule tree cred subject here text = first (
    line (nat_lt 1023 (length text)) rule.PathLong
    ∷ line (length text == 0) rule.NoEntry
    ∷ part_lines tree cred subject (begin_at here text) (steps text))

-- the last part of a path is absent
abbrev pub is_absent_end : WalkEnd → Bool
is_absent_end (tree.absent dir name) = true
is_absent_end (tree.found path) = false
is_absent_end tree.missing = false
is_absent_end tree.not_dir = false
is_absent_end tree.name_long = false
is_absent_end tree.path_long = false

-- the path that a walk leads to
abbrev pub path_at : WalkEnd → List (List ℕ)
path_at (tree.found path) = path
path_at (tree.absent dir name) = dir ++ name ∷ []
path_at tree.missing = []
path_at tree.not_dir = []
path_at tree.name_long = []
path_at tree.path_long = []

-- the first rule by which a path leads to no node
abbrev pub node_rule : Tree → Cred → Subject → List (List ℕ) → List ℕ → Option Rule
node_rule tree cred subject here text = first (
    path_rule tree cred subject here text
    ∷ line (is_absent_end (walk tree here text).end) rule.NoEntry
    ∷ [])
