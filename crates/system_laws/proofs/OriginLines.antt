-- A call through a number whose origin opened a line that was revoked since is answered as through a dead file, or the number is closed.
use Rattle.std.proofs.Common.{◌≡◌, ◌⊎◌, inl, inr, ℕ, Bool, true, false, List, [], ◌∷◌, Option, Some, None, option_map, refl, ap, sym, subst, ◌∙◌, arith}
use Rattle.std.specs.Prelude.{nat_lt, is_some, slice_get}
use Rattle.sys_types.specs.declared.limits.TheConstants.{PIECE_BYTES}
use Rattle.sys_types.specs.declared.node.Kind.TheVariants as kind
use Rattle.sys_types.specs.declared.rules.Rule.{Rule}
use Rattle.sys_types.specs.declared.rules.Rule.TheVariants.{BadFd, Size}
use Rattle.call_words.specs.declared.call.Call.{Call}
use Rattle.call_words.specs.declared.call.Call.TheVariants as call
use Rattle.call_words.specs.declared.event.Event.{Event}
use Rattle.call_words.specs.declared.event.Event.TheVariants as event
use Rattle.call_words.specs.declared.event.Reply.TheVariants.{Denied}
use Rattle.call_words.specs.declared.event.Decision.TheVariants.{Answer}
use Rattle.call_words.specs.declared.open.Access.{Access}
use Rattle.call_words.specs.declared.open.OpenFlags.{OpenFlags}
use Rattle.user_db.specs.declared.boot.Boot.{Boot}
use Rattle.tree_model.specs.Tree.{NodeRecord, found, absent}
use Rattle.proc_table.specs.Processes.{pending_at}
use Rattle.system_model.specs.Parts.{Path, Target, tty, File}
use Rattle.system_model.specs.State.{OpenFile, View}
use Rattle.system_model.specs.FileEffects.{at_offset}
use Rattle.system_model.specs.ProcessEffects.{set_pending}
use Rattle.system_model.specs.Effects.{on_processes}
use Rattle.system_model.specs.Rows.{refused, Check, deny, first, decision_by, also}
use Rattle.system_model.specs.Looks.{file_at, holds_of, end_of, node_at, tty_path}
use Rattle.system_model.specs.OpenCalls.{own_tty}
use Rattle.system_model.specs.TtyCalls.{tty_of_kind, tty_of_node}
use Rattle.system_model.specs.Step.{call_row, row, answer_to}
use Rattle.system_model.specs.Run.{state_after}
use Rattle.system_laws.specs.Laws.{fd_of, is_dead_at, asks_call, CanRun, IsDeadAnswer, IsOpenedBy, by_open, by_pipe, Opens, a_file, a_line, own_line, new_file}
use Rattle.system_laws.specs.OriginLaws.{seen_after, LeadsToLine, by_path, by_session, AsksRevoked, MovesUnrevoked}
use Rattle.system_laws.proofs.Revocations.{entered, retried, dead_answers}
use Rattle.system_laws.proofs.OriginEvents.{asked-is, same-both, origin_is}
use Rattle.system_laws.proofs.OriginRevokes.{seen_some, opened_well_at, dead_since, moves_unrevoked}

-- ---- one call is asked in an event

pub asks_one : (v : View) (e : Event) (slot other : ℕ) (c d : Call) → asks_call v e slot c → asks_call v e other d → (slot ≡ other) × (c ≡ d)
asks_one v e slot other c d first second = same-both slot other c d (sym (asked-is v e slot c first) ∙ asked-is v e other d second)

same-path : (path other : List ℕ) (access more : Access) (flags also : OpenFlags) (mode by : ℕ)
    → call.Open path access flags mode ≡ call.Open other more also by → path ≡ other
same-path path other access more flags also mode by is = cc

open-pipe : (path : List ℕ) (access : Access) (flags : OpenFlags) (mode : ℕ) → call.Open path access flags mode ≡ call.Pipe → ⊥
open-pipe path access flags mode is = cc

-- ---- what the open of a line opens

-- at the place is a node of the line, or /dev/tty and the line is that of the caller's session
data HasLine (v : View) (slot : ℕ) (place : Path) (line : ℕ) : Type 0 where
  its_node : tty_of_node (node_at v place) ≡ Some line → HasLine v slot place line
  its_session : (what : NodeRecord) → node_at v place ≡ Some what → what.kind ≡ kind.Tty → own_tty v slot ≡ Some line → HasLine v slot place line

same-place : (place other : Path) → found place ≡ found other → place ≡ other
same-place place other is = cc

found-absent : (place dir : Path) (name : List ℕ) → found place ≡ absent dir name → ⊥
found-absent place dir name is = cc

kind-there : (v : View) (place : Path) (what other : NodeRecord) → node_at v place ≡ Some what → node_at v place ≡ Some other → what.kind ≡ other.kind
kind-there v place what other one two = (let same : what ≡ other = (let both = sym one ∙ two in cc) in ap (λ (n : NodeRecord). n.kind) same)

same-line : (n line : ℕ) → Some n ≡ Some line → n ≡ line
same-line n line is = cc

file-line : (line : ℕ) → tty_of_kind kind.File ≡ Some line → ⊥
file-line line is = cc

tty-line : (line : ℕ) → tty_of_kind kind.Tty ≡ Some line → ⊥
tty-line line is = cc

file-tty : kind.File ≡ kind.Tty → ⊥
file-tty is = cc

line-tty : (n : ℕ) → kind.Line n ≡ kind.Tty → ⊥
line-tty n is = cc

opened-line : (v : View) (e : Event) (slot : ℕ) (path : List ℕ) (access : Access) (flags : OpenFlags) (target : Target) (place : Path) (line : ℕ)
    → end_of v slot path ≡ found place → HasLine v slot place line → Opens v e slot path access flags target → target ≡ tty line
opened-line v e slot path access flags target place line ends (its_node is) (a_file other also may t) =
    let same = same-place place other (sym ends ∙ also) in
    absurd (file-line line (ap tty_of_kind (sym may.is) ∙ ap tty_of_node (sym may.there) ∙ ap (λ q. tty_of_node (node_at v q)) (sym same) ∙ is))
opened-line v e slot path access flags target place line ends (its_node is) (a_line n also may t) =
    let same = same-place place (tty_path n) (sym ends ∙ also) in
    t
    ∙ ap tty
    (same-line n line (ap tty_of_kind (sym may.is) ∙ ap tty_of_node (sym may.there) ∙ ap (λ q. tty_of_node (node_at v q)) (sym same) ∙ is))
opened-line v e slot path access flags target place line ends (its_node is) (own_line other n also may own node_may t) =
    let same = same-place place other (sym ends ∙ also) in
    absurd (tty-line line (ap tty_of_kind (sym may.is) ∙ ap tty_of_node (sym may.there) ∙ ap (λ q. tty_of_node (node_at v q)) (sym same) ∙ is))
opened-line v e slot path access flags target place line ends (its_node is) (new_file dir name also create made t) =
    absurd (found-absent place dir name (sym ends ∙ also))
opened-line v e slot path access flags target place line ends (its_session what there is own) (a_file other also may t) =
    let same = same-place place other (sym ends ∙ also) in
    absurd (file-tty (sym may.is ∙ kind-there v other may.what what may.there (ap (node_at v) (sym same) ∙ there) ∙ is))
opened-line v e slot path access flags target place line ends (its_session what there is own) (a_line n also may t) =
    let same = same-place place (tty_path n) (sym ends ∙ also) in
    absurd (line-tty n (sym may.is ∙ kind-there v (tty_path n) may.what what may.there (ap (node_at v) (sym same) ∙ there) ∙ is))
opened-line v e slot path access flags target place line ends (its_session what there is own) (own_line other n also may mine node_may t) =
    t ∙ ap tty (same-line n line (sym mine ∙ own))
opened-line v e slot path access flags target place line ends (its_session what there is own) (new_file dir name also create made t) =
    absurd (found-absent place dir name (sym ends ∙ also))

-- an open that leads to a place of the line, without how it was answered
record LeadsTo (v : View) (e : Event) (line : ℕ) : Type 0 where
  slot : ℕ
  path : List ℕ
  access : Access
  flags : OpenFlags
  mode : ℕ
  place : Path
  asks : asks_call v e slot (call.Open path access flags mode)
  ends : end_of v slot path ≡ found place
  has : HasLine v slot place line

leads-to : (v : View) (e : Event) (line : ℕ) → LeadsToLine v e line → LeadsTo v e line
leads-to v e line (by_path slot path access flags mode n place asks says ends is) = record {
  slot = slot;
  path = path;
  access = access;
  flags = flags;
  mode = mode;
  place = place;
  asks = asks;
  ends = ends;
  has = its_node is;
}
leads-to v e line (by_session slot path access flags mode n place what asks says ends there is own) = record {
  slot = slot;
  path = path;
  access = access;
  flags = flags;
  mode = mode;
  place = place;
  asks = asks;
  ends = ends;
  has = its_session what there is own;
}

-- the file that the open of a line opens is of the line
pub leads_target : (v : View) (e : Event) (line : ℕ) (file : File) → LeadsToLine v e line → IsOpenedBy v e file → file.target ≡ tty line
leads_target v e line file leads (by_open slot path access flags mode n target asks runs says walks opens is) =
    let l = leads-to v e line leads in
    let same = asks_one v e l.slot slot (call.Open l.path l.access l.flags l.mode) (call.Open path access flags mode) l.asks asks in
    let paths = same-path l.path path l.access access l.flags flags l.mode mode same.1 in
    ap (λ (f : File). f.target) is
    ∙ opened-line v e slot path access flags target l.place line (ap (λ n. end_of v n path) (sym same.0) ∙ ap (end_of v l.slot) (sym paths) ∙ l.ends)
    (subst (λ n. HasLine v n l.place line) same.0 l.has) opens
leads_target v e line file leads (by_pipe slot k r w target asks runs says which none element is) =
    let l = leads-to v e line leads in
    absurd (open-pipe l.path l.access l.flags l.mode (asks_one v e l.slot slot (call.Open l.path l.access l.flags l.mode) call.Pipe l.asks asks).1)

-- ---- closed numbers

-- the first check of a call through a number denies
pub denied_first : (v : View) (e : Event) (slot : ℕ) (c : Call) (rule : Rule) → asks_call v e slot c → CanRun v slot
    → first (call_row v slot c).checks ≡ Some (refused rule, []) → answer_to v e ≡ Answer (Denied rule)
unfolding answer_to
denied_first v (event.Call asker asked) slot c rule (same, is, free) able denies =
    let here = entered v slot c able (subst (λ n. is_some (pending_at v.processes n) ≡ false) same free) in
    let there : first (row v (event.Call asker asked)).checks ≡ first (row v (event.Call slot c)).checks =
    ap (λ n. first (row v (event.Call n asked)).checks) same ∙ ap (λ d. first (row v (event.Call slot d)).checks) is
    in
    ap (λ o. decision_by o (row v (event.Call asker asked)).answer)
    (there ∙ here ∙ ap (option_map (also (on_processes (set_pending slot (Some c)) ∷ []) [])) denies)
denied_first v (event.Again asker) slot c rule (same, pends) able denies =
    let here = retried v slot c able (subst (λ n. pending_at v.processes n ≡ Some c) same pends) in
    ap (λ o. decision_by o (row v (event.Again asker)).answer)
    (ap (λ n. first (row v (event.Again n)).checks) same ∙ here ∙ ap (option_map (also [] (on_processes (set_pending slot None) ∷ []))) denies)
denied_first v (event.Byte n b) slot c rule asks able denies = absurd asks
denied_first v (event.Carrier n up) slot c rule asks able denies = absurd asks
denied_first v (event.Take n max) slot c rule asks able denies = absurd asks
denied_first v (event.Ended n) slot c rule asks able denies = absurd asks

closed-read : (big : Bool) (rest : List (Option Check))
    → (first (deny big Size ∷ deny true BadFd ∷ rest) ≡ Some (refused Size, [])) ⊎ (first (deny big Size ∷ deny true BadFd ∷ rest) ≡ Some (refused BadFd, []))
closed-read true rest = inl refl
closed-read false rest = inr refl

closed-number : (v : View) (e : Event) (slot fd : ℕ) (c : Call) → asks_call v e slot c → CanRun v slot → fd_of c ≡ Some fd → file_at v slot fd ≡ None
    → IsDeadAnswer c (answer_to v e) ⊎ (answer_to v e ≡ Answer (Denied BadFd))
closed-number v e slot fd (call.Read own max) asks able number closed =
    let here : file_at v slot own ≡ None = (let same : own ≡ fd = cc in ap (file_at v slot) same ∙ closed) in
    let checks : (first (call_row v slot (call.Read own max)).checks ≡ Some (refused Size, []))
    ⊎ (first (call_row v slot (call.Read own max)).checks ≡ Some (refused BadFd, [])) = rw here (closed-read (nat_lt PIECE_BYTES max) _)
    in
    elim checks [
      | inl size ↦ inl (inr (inl (denied_first v e slot (call.Read own max) Size asks able size)))
      | inr bad ↦ inr (denied_first v e slot (call.Read own max) BadFd asks able bad)
    ]
closed-number v e slot fd (call.Write own bs) asks able number closed =
    let here : file_at v slot own ≡ None = (let same : own ≡ fd = cc in ap (file_at v slot) same ∙ closed) in
    inr (denied_first v e slot (call.Write own bs) BadFd asks able (rw here refl))
closed-number v e slot fd (call.TcDrain own) asks able number closed =
    let here : file_at v slot own ≡ None = (let same : own ≡ fd = cc in ap (file_at v slot) same ∙ closed) in
    inr (denied_first v e slot (call.TcDrain own) BadFd asks able (rw here refl))
closed-number v e slot fd c asks able number closed = cc

-- ---- the law

dead-open : (says : Boot) (es : List Event) (p slot fd line : ℕ) (c : Call) (e : Event) (a : AsksRevoked says es p slot fd line c e) (f : OpenFile)
    → file_at (seen_after says es p) slot fd ≡ Some f → IsDeadAnswer c (answer_to (seen_after says es p) e)
dead-open says es p slot fd line c e a f there =
    let g = seen_some (state_after says es p) slot fd f there in
    let well = opened_well_at says es p slot fd g.named g.at in
    let made : a.origin ≡ (g.named).name.made = (let both = sym a.is ∙ origin_is says es p slot fd g.named g.at in cc) in
    let before : (a.opens).before ≡ well.before = (let one = (a.opens).is in let two = well.made in omega (arith, one, two, made)) in
    let same : (a.opens).event ≡ well.event = (let both = sym (a.opens).at ∙ ap (slice_get es) before ∙ well.at in cc) in
    let leads : LeadsToLine (seen_after says es well.before) well.event line =
    subst (λ d. LeadsToLine (seen_after says es well.before) d line) same
    (subst (λ n. LeadsToLine (seen_after says es n) (a.opens).event line) before (a.opens).leads)
    in
    let target : (g.named).file.target ≡ tty line =
    leads_target (seen_after says es well.before) well.event line (at_offset 0 (g.named).file) leads well.opened
    in
    let later = a.later in
    let dead = dead_since says es a.since p line g.named a.revoked a.earlier (omega (arith, later, made)) target in
    dead_answers (seen_after says es p) e slot c a.asks a.runs
    (ap (is_dead_at (seen_after says es p) slot) a.number ∙ ap (holds_of (λ h. h.dead)) there ∙ sym (ap (λ (x : OpenFile). x.dead) g.seen) ∙ dead)

dead-by : (says : Boot) (es : List Event) (p slot fd line : ℕ) (c : Call) (e : Event) (a : AsksRevoked says es p slot fd line c e) (o : Option OpenFile)
    → file_at (seen_after says es p) slot fd ≡ o
    → IsDeadAnswer c (answer_to (seen_after says es p) e) ⊎ (answer_to (seen_after says es p) e ≡ Answer (Denied BadFd))
dead-by says es p slot fd line c e a None closed = closed-number (seen_after says es p) e slot fd c a.asks a.runs a.number closed
dead-by says es p slot fd line c e a (Some f) there = inl (dead-open says es p slot fd line c e a f there)

-- the law of revokes by origins, of every run from a boot
pub moves_and_dies : (says : Boot) (es : List Event) → MovesUnrevoked says es
moves_and_dies says es = record {
  moves = moves_unrevoked says es;
  dead = λ p slot fd line c e a. dead-by says es p slot fd line c e a (file_at (seen_after says es p) slot fd) refl;
}
