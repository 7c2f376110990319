-- A node that is changed, made or taken away is of the line that the one before was of, or as that of none.
use Rattle.std.proofs.Common.{◌≡◌, ℕ, Bool, true, false, List, [], ◌∷◌, ◌++◌, refl, ap, sym, ◌∙◌, subst}
use Rattle.std.specs.Prelude.{Option, Some, None, option_map}
use Rattle.sys_types.specs.declared.rules.Rule.{Rule}
use Rattle.sys_types.specs.declared.node.Kind.{Kind}
use Rattle.sys_types.specs.declared.node.Kind.TheVariants as kind
use Rattle.tree_model.specs.Tree.{NodeRecord, absent, at_path, is_dir, is_dir_record}
use Rattle.system_model.specs.Parts.{Path}
use Rattle.system_model.specs.State.{View}
use Rattle.system_model.specs.TreeEffects.{set_node}
use Rattle.system_model.specs.Effects.{Effect, on_tree}
use Rattle.system_model.specs.Rows.{Check, deny, first}
use Rattle.system_model.specs.Looks.{caller_of, node_at, end_of, made_by}
use Rattle.system_model.specs.DirCalls as dirs
use Rattle.system_model.specs.TtyCalls.{tty_of_kind, tty_of_node}
use Rattle.system_laws.proofs.AbsentNodes.{IsAbsentEnd, walk_absent}
use Rattle.system_laws.proofs.LineNodes.{KeepLines, keep_next}

-- ---- checks that do not hold

pub none-after : (o : Option Check) (cs : List (Option Check)) → first (o ∷ cs) ≡ None → first cs ≡ None
none-after None cs is = is
none-after (Some c) cs is = cc

pub none-first : (o : Option Check) (cs : List (Option Check)) → first (o ∷ cs) ≡ None → o ≡ None
none-first None cs is = refl
none-first (Some c) cs is = cc

pub not-denied : (t : Bool) (rule : Rule) → deny t rule ≡ None → t ≡ false
not-denied true rule is = cc
not-denied false rule is = refl

-- ---- nodes

pub kept-kind : (how : NodeRecord → NodeRecord) (o : Option NodeRecord) → ((what : NodeRecord) → (how what).kind ≡ what.kind)
    → tty_of_node (option_map how o) ≡ tty_of_node o
kept-kind how None same = refl
kept-kind how (Some what) same = ap tty_of_kind (same what)

no-device-kind : (k : Kind) → dirs.is_device_kind k ≡ false → tty_of_kind k ≡ None
no-device-kind kind.File is = refl
no-device-kind kind.Dir is = refl
no-device-kind (kind.Line n) is = cc
no-device-kind kind.Tty is = refl

pub no-device : (o : Option NodeRecord) → dirs.is_device o ≡ false → tty_of_node o ≡ None
no-device None is = refl
no-device (Some what) is = no-device-kind what.kind is

dir-kind : (k : Kind) → is_dir k ≡ true → tty_of_kind k ≡ None
dir-kind kind.File is = cc
dir-kind kind.Dir is = refl
dir-kind (kind.Line n) is = cc
dir-kind kind.Tty is = cc

pub dir-line : (o : Option NodeRecord) → is_dir_record o ≡ true → tty_of_node o ≡ None
dir-line None is = cc
dir-line (Some what) is = dir-kind what.kind is

-- the path leads to a name at which nothing is
pub free-name : (v : View) (slot : ℕ) (path : List ℕ) (dir : Path) (name : List ℕ) → end_of v slot path ≡ absent dir name
    → node_at v (dir ++ name ∷ []) ≡ None
free-name v slot path dir name ends =
    (subst (IsAbsentEnd (at_path v.tree)) ends (walk_absent (at_path v.tree) (caller_of v slot).directory path)).1

made-line : (k : Kind) (o : Option NodeRecord) (make : NodeRecord → NodeRecord) → ((d : NodeRecord) → (make d).kind ≡ k) → tty_of_kind k ≡ None
    → tty_of_node (option_map make o) ≡ None
made-line k None make same none = refl
made-line k (Some d) make same none = ap tty_of_kind (same d) ∙ none

-- a node is made there that is of no line
pub keep-made : (v : View) (slot : ℕ) (path : List ℕ) (dir : Path) (name : List ℕ) (k : Kind) (mode : ℕ) (es : List Effect)
    → end_of v slot path ≡ absent dir name → tty_of_kind k ≡ None → KeepLines v es
    → KeepLines v (on_tree (set_node (dir ++ name ∷ []) (made_by v slot dir k mode)) ∷ es)
keep-made v slot path dir name k mode es ends none keep =
    keep_next _ es (made-line k (node_at v dir) _ (λ d. refl) none ∙ sym (ap tty_of_node (free-name v slot path dir name ends))) keep
