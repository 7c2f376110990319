-- What open(2) opens, where no check stops it.
use Rattle.std.proofs.Common.{◌≡◌, ℕ, Bool, true, false, cond, List, [], ◌∷◌, ◌++◌, refl, ap, ◌∙◌, subst}
use Rattle.std.specs.Prelude.{◌&&◌, not, Option, Some, None}
use Rattle.sys_types.specs.declared.rules.Rule.TheVariants.{Exists, IsDir, NoEntry, Flags}
use Rattle.sys_types.specs.declared.node.Kind.{Kind}
use Rattle.sys_types.specs.declared.node.Kind.TheVariants as kind
use Rattle.call_words.specs.declared.call.Call.TheVariants as call
use Rattle.call_words.specs.declared.event.Event.{Event}
use Rattle.call_words.specs.declared.event.Reply.TheVariants.{Num}
use Rattle.call_words.specs.declared.event.Decision.TheVariants.{Answer}
use Rattle.call_words.specs.declared.open.Access.{Access}
use Rattle.call_words.specs.declared.open.OpenFlags.{OpenFlags}
use Rattle.call_words.specs.Calls.{can_read, can_write}
use Rattle.fd_table.specs.Shared.{lowest_number}
use Rattle.tree_model.specs.Tree.{NodeRecord, WalkEnd, found, absent, missing, not_dir, name_long, path_long, at_path, is_dir_record}
use Rattle.tree_model.specs.Contents.{with_contents}
use Rattle.tree_model.specs.NewNodes.{new_in, new_in_dir}
use Rattle.system_model.specs.Parts.{Path, Target, node, tty}
use Rattle.system_model.specs.State.{View}
use Rattle.system_model.specs.FileEffects.{change_files}
use Rattle.system_model.specs.TreeEffects.{set_node, change_tree}
use Rattle.system_model.specs.Effects.{on_tree, change_all}
use Rattle.system_model.specs.Rows.{Check, deny, first, answer_of}
use Rattle.system_model.specs.Looks.{caller_of, end_of, node_at, access_check, made_by, path_check, tty_path}
use Rattle.system_model.specs.OpenCalls as opens
use Rattle.system_model.specs.TtyCalls.{tty_of_kind, tty_of_node}
use Rattle.system_model.specs.Step.{call_row, answer_to, view_after}
use Rattle.system_laws.specs.Laws.{asks_call, CanRun, MayUse, IsMadeBy, Opens, a_file, a_line, own_line, new_file, by_open}
use Rattle.system_laws.proofs.OpenLabels.{may-open}
use Rattle.system_laws.proofs.OpenFiles.{AllOpen, all-append, Opened}
use Rattle.system_laws.proofs.NodePlaces.{placed_here}
use Rattle.system_laws.proofs.AbsentNodes.{IsAbsentEnd, walk_absent}
use Rattle.system_laws.proofs.NodesKept.{none-after, none-first, not-denied}

-- ---- nodes

same-line : (n : ℕ) (k : Kind) → tty_of_kind k ≡ Some n → k ≡ kind.Line n
same-line n kind.File is = cc
same-line n kind.Dir is = cc
same-line n (kind.Line m) is = cc
same-line n kind.Tty is = cc

line-there : (n : ℕ) (o : Option NodeRecord) → tty_of_node o ≡ Some n → (what : NodeRecord) × (o ≡ Some what) × (what.kind ≡ kind.Line n)
line-there n None is = cc
line-there n (Some what) is = (what, refl, same-line n what.kind is)

dir-there : (o : Option NodeRecord) → is_dir_record o ≡ true → (dir : NodeRecord) × (o ≡ Some dir)
dir-there None is = cc
dir-there (Some dir) is = (dir, refl)

may-use : (v : View) (slot : ℕ) (access : Access) (place : Path) (what : NodeRecord) (k : Kind) → node_at v place ≡ Some what → what.kind ≡ k
    → access_check v slot place (can_read access) (can_write access) false ≡ None → MayUse v slot access place k
may-use v slot access place what k there is allowed =
    record { what = what; there = there; is = is; allowed = allowed; labels = may-open v slot access place allowed }

-- ---- open(2)

-- an open(2) that is asked in an event, by a process that runs
pub record Asks (v : View) (e : Event) (slot : ℕ) (path : List ℕ) (access : Access) (flags : OpenFlags) (mode : ℕ) : Type 0 where
  pub asks : asks_call v e slot (call.Open path access flags mode)
  pub runs : CanRun v slot
  pub says : answer_to v e ≡ answer_of (call_row v slot (call.Open path access flags mode)).answer
  pub walks : path_check v slot path ≡ None
  pub after : (view_after v e).tree ≡ (change_all v (call_row v slot (call.Open path access flags mode)).effects).tree
  pub lines : (n : ℕ) → opens.own_tty v slot ≡ Some n → tty_of_node (node_at v (tty_path n)) ≡ Some n
  pub places : (place : Path) (n : ℕ) → tty_of_node (node_at v place) ≡ Some n → place ≡ tty_path n

module _ (v : View) (e : Event) (slot : ℕ) (path : List ℕ) (access : Access) (flags : OpenFlags) (mode : ℕ) (asked : Asks v e slot path access flags mode) where
  answered : (end : WalkEnd) → end_of v slot path ≡ end → answer_to v e ≡ answer_of (opens.open_at v slot access flags mode end).answer
  answered end ends = asked.says ∙ ap (λ w. answer_of (opens.open_at v slot access flags mode w).answer) ends

  opened : (n : ℕ) (target : Target) → answer_to v e ≡ Answer (Num n) → Opens v e slot path access flags target
      → Opened v e (opens.file_for access flags target)
  opened n target says opens = by_open slot path access flags mode n target asked.asks asked.runs says asked.walks opens refl

  opened-tty : (m n : ℕ) → answer_to v e ≡ Answer (Num m) → Opens v e slot path access flags (tty n)
      → AllOpen (Opened v e) (opens.tty_effects slot access flags (Some n))
  opened-tty m n says opens = (tt, (opened m (tty n) says opens, tt))

  opened-own : (place : Path) (what : NodeRecord) (m : ℕ) (rest : List (Option Check)) (own : Option ℕ) → answer_to v e ≡ Answer (Num m)
      → end_of v slot path ≡ found place → MayUse v slot access place kind.Tty → opens.own_tty v slot ≡ own
      → first (opens.own_tty_checks v slot access flags own ++ rest) ≡ None → AllOpen (Opened v e) (opens.tty_effects slot access flags own)
  opened-own place what m rest None says ends may is none = tt
  opened-own place what m rest (Some n) says ends may is none =
      let line = line-there n (node_at v (tty_path n)) (asked.lines n is) in
      opened-tty m n says
      (own_line place n ends may is
      (may-use v slot access (tty_path n) line.0 (kind.Line n) line.1 line.2 (none-first _ _ none)) refl)

  opened-kind : (place : Path) (what : NodeRecord) (m : ℕ) (rest : List (Option Check)) (k : Kind) → answer_to v e ≡ Answer (Num m)
      → end_of v slot path ≡ found place → MayUse v slot access place k
      → first (opens.kind_checks v slot access flags k ++ rest) ≡ None → AllOpen (Opened v e) (opens.kind_effects v slot place access flags what k)
  opened-kind place what m rest kind.File says ends may none =
      all-append (Opened v e) (opens.truncations place flags what) _ (unopened flags.truncate) (opened m (node place) says (a_file place ends may refl), tt)
    where
      unopened : (t : Bool) → AllOpen (Opened v e) (cond t (on_tree (set_node place (Some (with_contents [] what))) ∷ []) [])
      unopened true = (tt, tt)
      unopened false = tt
  opened-kind place what m rest kind.Dir says ends may none = tt
  opened-kind place what m rest (kind.Line n) says ends may none =
      let own : place ≡ tty_path n = asked.places place n (ap tty_of_node may.there ∙ ap tty_of_kind may.is) in
      opened-tty m n says
      (a_line n (ends ∙ ap found own) (subst (λ p. MayUse v slot access p (kind.Line n)) own may) refl)
  opened-kind place what m rest kind.Tty says ends may none = opened-own place what m rest (opens.own_tty v slot) says ends may refl none

  opened-place : (place : Path) (m : ℕ) (rest : List (Option Check)) (o : Option NodeRecord) → answer_to v e ≡ Answer (Num m)
      → end_of v slot path ≡ found place → node_at v place ≡ o → access_check v slot place (can_read access) (can_write access) false ≡ None
      → first (opens.place_checks v slot access flags o ++ rest) ≡ None → AllOpen (Opened v e) (opens.place_effects v slot place access flags o)
  opened-place place m rest None says ends there allowed none = tt
  opened-place place m rest (Some what) says ends there allowed none =
      opened-kind place what m rest what.kind says ends (may-use v slot access place what what.kind there refl allowed) none

  opened-new : (dir : Path) (name : List ℕ) (m : ℕ) → answer_to v e ≡ Answer (Num m) → end_of v slot path ≡ absent dir name
      → first (opens.open_at v slot access flags mode (absent dir name)).checks ≡ None
      → AllOpen (Opened v e) (opens.open_at v slot access flags mode (absent dir name)).effects
  unfolding change_tree change_files
  opened-new dir name m says ends none = (tt, (opened m (node (dir ++ name ∷ [])) says (new_file dir name ends create made refl), tt))
    where
      ended : (is_dir_record (node_at v dir) ≡ true) × (node_at v (dir ++ name ∷ []) ≡ None)
      ended = subst (IsAbsentEnd (at_path v.tree)) ends (walk_absent (at_path v.tree) (caller_of v slot).directory path)

      not-not : (t : Bool) → not t ≡ false → t ≡ true
      not-not true is = refl
      not-not false is = cc

      create : flags.create ≡ true
      create = not-not flags.create (not-denied (not flags.create) NoEntry (none-first _ _ none))

      here : (d : NodeRecord) × (node_at v dir ≡ Some d)
      here = dir-there (node_at v dir) ended.0

      made : IsMadeBy v e slot dir name
      made = record {
        directory = here.0;
        inside = here.1;
        allowed = none-first _ _ (none-after (deny (not flags.create) NoEntry) _ none);
        free = ended.1;
        what = new_in (caller_of v slot).cred (caller_of v slot).label (caller_of v slot).umask here.0 kind.File mode;
        there =
            ap (λ tree. at_path tree (dir ++ name ∷ []))
            (asked.after ∙ ap (λ end. (change_all v (opens.open_at v slot access flags mode end).effects).tree) ends)
            ∙ placed_here v.tree (dir ++ name ∷ []) (made_by v slot dir kind.File mode)
            ∙ ap (λ o. new_in_dir (caller_of v slot).cred (caller_of v slot).label (caller_of v slot).umask o kind.File mode) here.1;
        is = refl;
        owner = refl;
        element = refl;
      }

  opened-end : (end : WalkEnd) → end_of v slot path ≡ end → first (opens.open_at v slot access flags mode end).checks ≡ None
      → AllOpen (Opened v e) (opens.open_at v slot access flags mode end).effects
  opened-end (found place) ends none =
      let past_dir = none-after (deny (is_dir_record (node_at v place)) IsDir) _ (none-after (deny (flags.create && flags.exclusive) Exists) _ none) in
      opened-place place (lowest_number v.descriptors.table slot) (opens.room_check v slot ∷ []) (node_at v place) (answered (found place) ends) ends refl
      (none-first _ _ past_dir) (none-after (access_check v slot place (can_read access) (can_write access) false) _ past_dir)
  opened-end (absent dir name) ends none = opened-new dir name (lowest_number v.descriptors.table slot) (answered (absent dir name) ends) ends none
  opened-end missing ends none = tt
  opened-end not_dir ends none = tt
  opened-end name_long ends none = tt
  opened-end path_long ends none = tt

-- what an open(2) opens
pub opened_by_open : (v : View) (e : Event) (slot : ℕ) (path : List ℕ) (access : Access) (flags : OpenFlags) (mode : ℕ) → Asks v e slot path access flags mode
    → first (call_row v slot (call.Open path access flags mode)).checks ≡ None
    → AllOpen (Opened v e) (call_row v slot (call.Open path access flags mode)).effects
opened_by_open v e slot path access flags mode asked none =
    opened-end v e slot path access flags mode asked (end_of v slot path) refl
    (none-after (path_check v slot path) _ (none-after (deny (opens.flags_clash access flags) Flags) _ none))
