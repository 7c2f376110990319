-- A node is opened only for what labels allow.
use Rattle.std.proofs.Common.{◌≡◌, ℕ, Bool, true, false, List, [], ◌∷◌, ◌++◌, refl, sym, ◌∙◌, subst}
use Rattle.std.specs.Prelude.{not, ◌&&◌, ◌||◌, Option, Some, None}
use Rattle.label_core.specs.Element.{dom}
use Rattle.sys_types.specs.declared.node.Kind.{Kind}
use Rattle.sys_types.specs.declared.node.Kind.TheVariants as kind
use Rattle.sys_types.specs.declared.rules.Rule.{Rule}
use Rattle.sys_types.specs.declared.rules.Rule.TheVariants.{Flags, Exists, IsDir, LabelRead, LabelWrite}
use Rattle.call_words.specs.declared.call.Call.TheVariants as call
use Rattle.call_words.specs.declared.event.Event.{Event}
use Rattle.call_words.specs.declared.event.Reply.TheVariants.{Num}
use Rattle.call_words.specs.declared.event.Decision.TheVariants.{Answer}
use Rattle.call_words.specs.declared.open.Access.{Access}
use Rattle.call_words.specs.declared.open.OpenFlags.{OpenFlags}
use Rattle.call_words.specs.Calls.{can_read, can_write}
use Rattle.access_rule.specs.Access as rules
use Rattle.tree_model.specs.Tree.{NodeRecord, found, is_dir_record}
use Rattle.tree_model.specs.Paths.{access_rule}
use Rattle.fd_table.specs.Shared.{lowest_number}
use Rattle.system_model.specs.Parts.{Path}
use Rattle.system_model.specs.State.{State, View, view}
use Rattle.system_model.specs.Rows.{Given, number, Check, deny, deny_by, behind, first, decision_by, decision}
use Rattle.system_model.specs.Looks.{caller_of, path_check, end_of, node_at, access_check, tty_path}
use Rattle.system_model.specs.OpenCalls.{flags_clash, open_at, place_checks, kind_checks, own_tty_checks, own_tty, tty_checks, room_check}
use Rattle.system_model.specs.Step.{call_row}
use Rattle.system_laws.specs.Laws.{MayOpen, OpensByLabels}
use Rattle.system_laws.proofs.Labels.{own-answer}

-- where no rule refuses an access, labels allow it
allowed : (read write : Bool) (over under : Bool) (rest : List (Option Rule))
    → rules.first (rules.line ((read || false) && not over) LabelRead ∷ rules.line (write && not under) LabelWrite ∷ rest) ≡ None
    → (read ≡ true → over ≡ true) × (write ≡ true → under ≡ true)
allowed true true true true rest is = (λ r. refl, λ w. refl)
allowed true true true false rest is = cc
allowed true true false under rest is = cc
allowed true false true under rest is = (λ r. refl, λ w. cc)
allowed true false false under rest is = cc
allowed false true over true rest is = (λ r. cc, λ w. refl)
allowed false true over false rest is = cc
allowed false false over under rest is = (λ r. cc, λ w. cc)

may-open-node : (v : View) (slot : ℕ) (access : Access) (place : Path) (what : Option NodeRecord) → node_at v place ≡ what
    → access_rule (caller_of v slot).cred (caller_of v slot).label what (can_read access) (can_write access) false ≡ None → MayOpen v slot access place
may-open-node v slot access place None there is = record { reads = λ r. rw there refl; writes = λ w. rw there refl }
may-open-node v slot access place (Some what) there is =
    let both =
    allowed (can_read access) (can_write access) (dom (caller_of v slot).label.active what.attrs.element)
    (dom what.attrs.element (caller_of v slot).label.active) _ is
    in
    record { reads = λ r. rw there (both.0 r); writes = λ w. rw there (both.1 w) }

no-check : (rule : Option Rule) → deny_by rule ≡ None → rule ≡ None
no-check None is = refl
no-check (Some r) is = cc

pub may-open : (v : View) (slot : ℕ) (access : Access) (place : Path) → access_check v slot place (can_read access) (can_write access) false ≡ None
    → MayOpen v slot access place
may-open v slot access place is = may-open-node v slot access place (node_at v place) refl (no-check _ is)

-- a number is answered only where none of these denies
open-checks : (flags exists dir : Bool) (path access : Option Rule) (rest : List (Option Check)) (g : Given) (n : ℕ)
    → decision_by (first (deny flags Flags ∷ deny_by path ∷ deny exists Exists ∷ deny dir IsDir ∷ deny_by access ∷ rest)) g ≡ Answer (Num n)
    → (deny_by access ≡ None) × (decision_by (first rest) g ≡ Answer (Num n))
open-checks true exists dir path access rest g n is = cc
open-checks false exists dir (Some r) access rest g n is = cc
open-checks false true dir None access rest g n is = cc
open-checks false false true None access rest g n is = cc
open-checks false false false None (Some r) rest g n is = cc
open-checks false false false None None rest g n is = (refl, is)

rule-first : (access : Option Rule) (rest : List (Option Check)) (g : Given) (n : ℕ) → decision_by (first (deny_by access ∷ rest)) g ≡ Answer (Num n)
    → deny_by access ≡ None
rule-first None rest g n is = refl
rule-first (Some r) rest g n is = cc

opened : (v : View) (slot : ℕ) (path : List ℕ) (access : Access) (flags : OpenFlags) (mode n : ℕ) (place : Path) → end_of v slot path ≡ found place
    → decision (call_row v slot (call.Open path access flags mode)) ≡ Answer (Num n)
    → (access_check v slot place (can_read access) (can_write access) false ≡ None)
    × (decision_by (first (place_checks v slot access flags (node_at v place) ++ room_check v slot ∷ []))
    (open_at v slot access flags mode (found place)).answer
    ≡ Answer (Num n))
opened v slot path access flags mode n place ends is =
    open-checks (flags_clash access flags) (flags.create && flags.exclusive) (is_dir_record (node_at v place)) _
    (access_rule (caller_of v slot).cred (caller_of v slot).label (node_at v place) (can_read access) (can_write access) false)
    (place_checks v slot access flags (node_at v place) ++ room_check v slot ∷ []) (open_at v slot access flags mode (found place)).answer n
    (subst (λ end. decision (behind (deny (flags_clash access flags) Flags ∷ path_check v slot path ∷ [])
    (open_at v slot access flags mode end)) ≡ Answer (Num n)) ends is)

own-kind : (v : View) (slot : ℕ) (access : Access) (flags : OpenFlags) (line n : ℕ) (g : Given) (rest : List (Option Check)) (k : Kind) → k ≡ kind.Tty
    → own_tty v slot ≡ Some line → decision_by (first (kind_checks v slot access flags k ++ rest)) g ≡ Answer (Num n)
    → access_check v slot (tty_path line) (can_read access) (can_write access) false ≡ None
own-kind v slot access flags line n g rest k tty own is =
    rule-first (access_rule (caller_of v slot).cred (caller_of v slot).label (node_at v (tty_path line)) (can_read access) (can_write access) false)
    (tty_checks v slot flags line ++ rest) g n
    (subst (λ l. decision_by (first (own_tty_checks v slot access flags l ++ rest)) g ≡ Answer (Num n)) own
    (subst (λ k. decision_by (first (kind_checks v slot access flags k ++ rest)) g ≡ Answer (Num n)) tty is))

-- the law of labels at opens, of every event in every state
pub opens_by_labels : (s : State) (p : ℕ) (e : Event) → OpensByLabels s p e
opens_by_labels s p e = record {
  opens = λ slot path access flags mode n place asks is ends.
      may-open (view s) slot access place
      (opened (view s) slot path access flags mode n place ends (sym (own-answer (view s) e slot (call.Open path access flags mode) asks (rw is refl)) ∙ is)).0;
  opens_own = λ slot path access flags mode n line place what asks is ends there tty own.
      may-open (view s) slot access (tty_path line)
      (own-kind (view s) slot access flags line n (number (lowest_number (view s).descriptors.table slot)) (room_check (view s) slot ∷ []) what.kind tty own
      (subst (λ w. decision_by (first (place_checks (view s) slot access flags w ++ room_check (view s) slot ∷ []))
      (number (lowest_number (view s).descriptors.table slot)) ≡ Answer (Num n))
      there
      (opened (view s) slot path access flags mode n place ends
      (sym (own-answer (view s) e slot (call.Open path access flags mode) asks (rw is refl)) ∙ is)).1));
}
