-- Of a line whose node is shut after a revoke, bytes move only through what the superuser opened since.
use Rattle.std.proofs.Common.{◌≡◌, ◌≢◌, ◌⊎◌, inl, inr, ℕ, ◌<◌, ◌≤◌, Bool, true, false, cond, List, [], ◌∷◌, ◌++◌, refl, ap, sym, subst, ◌∙◌, arith}
use Rattle.std.specs.Prelude.{◌==◌, not, Option, Some, None, slice_get, if◌then◌else◌}
use Rattle.std.specs.List.{list_any}
use Rattle.std.proofs.lemmas.Bool.Decides.{eqb_tells}
use Rattle.sys_types.specs.declared.node.Kind.TheVariants as kind
use Rattle.sys_types.specs.declared.rules.Rule.{Rule}
use Rattle.sys_types.specs.declared.rules.Rule.TheVariants as rule
use Rattle.label_core.specs.declared.subject.Subject.{Subject}
use Rattle.acl_core.specs.declared.cred.Cred.{Cred}
use Rattle.acl_core.specs.declared.entry.Entry.{Entry}
use Rattle.acl_core.specs.declared.entry.Tag.{Tag}
use Rattle.acl_core.specs.declared.entry.Tag.TheVariants.{UserObj, GroupObj, Mask, Other}
use Rattle.acl_core.specs.declared.perm.Perm.{Perm}
use Rattle.acl_core.specs.Perm.{has_all}
use Rattle.acl_core.specs.Entry.{perms_at, perms_where}
use Rattle.acl_core.specs.Deciding.{matches_group, limit_by, grants}
use Rattle.acl_core.specs.Mode.{minimal_list}
use Rattle.access_rule.specs.Access as rules
use Rattle.access_rule.specs.Access.{list_refuses, list_rule, refusal}
use Rattle.call_words.specs.declared.call.Call.{Call}
use Rattle.call_words.specs.declared.call.Call.TheVariants as call
use Rattle.call_words.specs.declared.event.Event.{Event}
use Rattle.call_words.specs.declared.open.Access.{Access}
use Rattle.call_words.specs.declared.open.Access.TheVariants.{Read, Write, ReadWrite}
use Rattle.call_words.specs.declared.open.OpenFlags.{OpenFlags}
use Rattle.call_words.specs.Calls.{can_read, can_write}
use Rattle.user_db.specs.declared.boot.Boot.{Boot}
use Rattle.tree_model.specs.Tree.{NodeRecord}
use Rattle.tree_model.specs.Paths.{access_rule}
use Rattle.system_model.specs.Parts.{Path, Target, node, read_end, write_end, tty, File}
use Rattle.system_model.specs.State.{NamedFile, View, view}
use Rattle.system_model.specs.FileEffects.{at_offset}
use Rattle.system_model.specs.Effects.{change_all}
use Rattle.system_model.specs.Rows.{deny_by, done}
use Rattle.system_model.specs.Looks.{caller_of, node_at, end_of, tty_path}
use Rattle.system_model.specs.PipeCalls.{pipe_file}
use Rattle.system_model.specs.Endings.{endings_of}
use Rattle.system_model.specs.Step.{call_row, row}
use Rattle.system_model.specs.Run.{state_after}
use Rattle.system_laws.specs.Laws.{asks_call, CanRun, IsOpenedBy, by_open, by_pipe, Opens, a_file, a_line, own_line, new_file, MayUse, IsOpenedWell}
use Rattle.system_laws.specs.Laws.{revokes_line}
use Rattle.system_laws.specs.OriginLaws.{seen_after, RevokesAt, IsShut, HasNewOrigin, ShutsWindow}
use Rattle.system_laws.proofs.Openings.{Calm, calm_end, calm_next, calm-append, calm_open}
use Rattle.system_laws.proofs.Runs.{calm-ending, view-ending, no-endings}
use Rattle.system_laws.proofs.OpenRuns.{calm-answer, within_at}
use Rattle.system_laws.proofs.RevokedFiles.{calm-any, none-behind}
use Rattle.system_laws.proofs.MakerAnswers.{Does, maker_does}
use Rattle.system_laws.proofs.OriginEvents.{origin_is}
use Rattle.system_laws.proofs.OriginRevokes.{MovesNamed, moves_named, opened_well_at}

-- ---- what opens a file revokes nothing

calm-event : (v : View) (e : Event) (slot : ℕ) (c : Call) (n : ℕ) → v.ending ≡ [] → Does v e slot c → Calm (call_row v slot c).effects
    → revokes_line v e n ≡ false
calm-event v e slot c n nobody acted calm =
    let es = done (row v e) in
    let both : Calm es = subst Calm (sym acted.does) (calm-append (call_row v slot c).effects acted.rest calm (calm-answer slot acted.rest acted.answered)) in
    let none : endings_of (change_all v es) ≡ [] = no-endings (change_all v es) (calm-ending v es both ∙ nobody) in
    none-behind n es (endings_of (change_all v es)) none (calm-any n es both)

opened-revokes : (v : View) (e : Event) (file : File) (n : ℕ) → v.ending ≡ [] → IsOpenedBy v e file → revokes_line v e n ≡ false
opened-revokes v e file n nobody (by_open slot path access flags mode m target asks runs says walks opens is) =
    calm-event v e slot (call.Open path access flags mode) n nobody
    (maker_does v e slot (call.Open path access flags mode) asks refl (rw says refl))
    (calm_open v slot access flags mode (end_of v slot path))
opened-revokes v e file n nobody (by_pipe slot k r w target asks runs says which none element is) =
    calm-event v e slot call.Pipe n nobody
    (maker_does v e slot call.Pipe asks refl (rw says refl))
    (calm_next _ _ refl (calm_next _ _ refl (calm_next _ _ refl calm_end)))

-- ---- whom a shut node lets in

-- what a call wants of a node that reads or writes it
abbrev wants : Access → Perm
wants access = record { read = can_read access; write = can_write access; exec = false }

-- by the class of a group, or of others, such a list grants nothing
classes-grant : (f : Tag → Bool) → f UserObj ≡ false → f Other ≡ false → (b : Bool) → f GroupObj ≡ b → (access : Access)
    → list_any (λ p. has_all p (wants access))
    (if list_any (λ (e : Entry). f e.tag) (minimal_list 0o600) then limit_by (perms_at Mask (minimal_list 0o600)) (perms_where f (minimal_list 0o600))
    else perms_at Other (minimal_list 0o600))
    ≡ false
unfolding minimal_list
classes-grant f user other true group Read = rw (user, other, group) refl
classes-grant f user other true group Write = rw (user, other, group) refl
classes-grant f user other true group ReadWrite = rw (user, other, group) refl
classes-grant f user other false group Read = rw (user, other, group) refl
classes-grant f user other false group Write = rw (user, other, group) refl
classes-grant f user other false group ReadWrite = rw (user, other, group) refl

shut-grants : (cred : Cred) (group : ℕ) (access : Access) → (cred.uid == 0) ≡ false → grants (minimal_list 0o600) cred 0 group (wants access) ≡ false
unfolding grants minimal_list
shut-grants cred group access apart =
    rw apart (classes-grant (matches_group cred group) refl refl (matches_group cred group GroupObj) refl access)

not-not : (t : Bool) → not t ≡ false → t ≡ true
not-not true is = refl
not-not false is = cc

no-list : (a b c : Bool) (r : Rule) → rules.first (rules.line a rule.LabelRead ∷ rules.line b rule.LabelWrite ∷ rules.line c r ∷ []) ≡ None → c ≡ false
no-list true b c r is = cc
no-list false true c r is = cc
no-list false false true r is = cc
no-list false false false r is = refl

no-check : (r : Option Rule) → deny_by r ≡ None → r ≡ None
no-check None is = refl
no-check (Some r) is = cc

let-in : (cred : Cred) (subject : Subject) (what : NodeRecord) (access : Access) → what.attrs.owner ≡ 0 → what.attrs.list ≡ minimal_list 0o600
    → access_rule cred subject (Some what) (can_read access) (can_write access) false ≡ None → cred.uid ≡ 0
let-in cred subject what access owner list none = by_tells (eqb_tells cred.uid 0)
  where
    refuses : list_refuses cred what.attrs (wants access) ≡ false
    refuses = no-list _ _ (list_refuses cred what.attrs (wants access)) (list_rule what.attrs false) none

    by_tells : ((cred.uid == 0) ≡ true) × (cred.uid ≡ 0) ⊎ ((cred.uid == 0) ≡ false) × (cred.uid ≢ 0) → cred.uid ≡ 0
    by_tells (inl (is, zero)) = zero
    by_tells (inr (is, apart)) =
        let granted : grants what.attrs.list cred what.attrs.owner what.attrs.group (wants access) ≡ true =
        not-not (grants what.attrs.list cred what.attrs.owner what.attrs.group (wants access))
        (subst (λ t. cond t false (not (grants what.attrs.list cred what.attrs.owner what.attrs.group (wants access))) ≡ false) is refuses)
        in
        let never : grants what.attrs.list cred what.attrs.owner what.attrs.group (wants access) ≡ false =
        ap (λ l. grants l cred what.attrs.owner what.attrs.group (wants access)) list
        ∙ ap (λ o. grants (minimal_list 0o600) cred o what.attrs.group (wants access)) owner
        ∙ shut-grants cred what.attrs.group access is
        in
        absurd (let both = sym granted ∙ never in cc)

same-node : (v : View) (place : Path) (a b : NodeRecord) → node_at v place ≡ Some a → node_at v place ≡ Some b → a ≡ b
same-node v place a b one two = (let both = sym one ∙ two in cc)

super-opens : (v : View) (slot line : ℕ) (access : Access) → IsShut v line → MayUse v slot access (tty_path line) (kind.Line line)
    → (caller_of v slot).cred.uid ≡ 0
super-opens v slot line access shut may =
    let same = same-node v (tty_path line) may.what shut.what may.there shut.there in
    let none : access_rule (caller_of v slot).cred (caller_of v slot).label (Some may.what) (can_read access) (can_write access) false ≡ None =
    ap (λ o. access_rule (caller_of v slot).cred (caller_of v slot).label o (can_read access) (can_write access) false) (sym may.there) ∙ no-check _ may.allowed
    in
    let-in (caller_of v slot).cred (caller_of v slot).label may.what access
    (ap (λ (n : NodeRecord). n.attrs.owner) same ∙ shut.owner) (ap (λ (n : NodeRecord). n.attrs.list) same ∙ shut.list) none

-- ---- who opened the line

same-tty : (n line : ℕ) → tty n ≡ tty line → n ≡ line
same-tty n line is = cc

node-tty : (place : Path) (line : ℕ) → node place ≡ tty line → ⊥
node-tty place line is = cc

read-tty : (k line : ℕ) → read_end k ≡ tty line → ⊥
read-tty k line is = cc

write-tty : (k line : ℕ) → write_end k ≡ tty line → ⊥
write-tty k line is = cc

may-line : (v : View) (e : Event) (slot : ℕ) (path : List ℕ) (access : Access) (flags : OpenFlags) (target : Target) (line : ℕ) → target ≡ tty line
    → Opens v e slot path access flags target → MayUse v slot access (tty_path line) (kind.Line line)
may-line v e slot path access flags target line of_line (a_file place ends may is) = absurd (node-tty place line (sym is ∙ of_line))
may-line v e slot path access flags target line of_line (a_line n ends may is) =
    subst (λ m. MayUse v slot access (tty_path m) (kind.Line m)) (same-tty n line (sym is ∙ of_line)) may
may-line v e slot path access flags target line of_line (own_line place n ends may own node_may is) =
    subst (λ m. MayUse v slot access (tty_path m) (kind.Line m)) (same-tty n line (sym is ∙ of_line)) node_may
may-line v e slot path access flags target line of_line (new_file dir name ends create made is) =
    absurd (node-tty (dir ++ name ∷ []) line (sym is ∙ of_line))

pipe-target : (target : Target) (k line : ℕ) → (target ≡ read_end k) ⊎ (target ≡ write_end k) → (pipe_file target).target ≡ tty line → ⊥
pipe-target target k line (inl is) of_line = read-tty k line (sym (ap (λ t. (pipe_file t).target) is) ∙ of_line)
pipe-target target k line (inr is) of_line = write-tty k line (sym (ap (λ t. (pipe_file t).target) is) ∙ of_line)

-- who asked it, where the node was shut
record SuperAsks (v : View) (e : Event) : Type 0 where
  slot : ℕ
  c : Call
  asks : asks_call v e slot c
  runs : CanRun v slot
  super : (caller_of v slot).cred.uid ≡ 0

super-asks : (v : View) (e : Event) (file : File) (line : ℕ) → IsShut v line → file.target ≡ tty line → IsOpenedBy v e file → SuperAsks v e
super-asks v e file line shut of_line (by_open slot path access flags mode n target asks runs says walks opens is) = record {
  slot = slot;
  c = call.Open path access flags mode;
  asks = asks;
  runs = runs;
  super =
      super-opens v slot line access shut
      (may-line v e slot path access flags target line (sym (ap (λ (f : File). f.target) is) ∙ of_line) opens);
}
super-asks v e file line shut of_line (by_pipe slot k r w target asks runs says which none element is) =
    absurd (pipe-target target k line which (sym (ap (λ (f : File). f.target) is) ∙ of_line))

-- ---- the law

not-same : (says : Boot) (es : List Event) (r p line : ℕ) (f : NamedFile) → RevokesAt says es r line → (well : IsOpenedWell says es p f) → r ≡ well.before → ⊥
not-same says es r p line f revoked well same =
    let s = state_after says es well.before in
    let one : revoked.event ≡ well.event = (let both = sym revoked.at ∙ ap (slice_get es) same ∙ well.at in cc) in
    let here : revokes_line (view s) well.event line ≡ true =
    ap (λ d. revokes_line (view s) d line) (sym one) ∙ ap (λ n. revokes_line (seen_after says es n) revoked.event line) (sym same) ∙ revoked.revoked
    in
    let never : revokes_line (view s) well.event line ≡ false =
    opened-revokes (view s) well.event (at_offset 0 f.file) line (view-ending s ∙ (within_at says es well.before).ending) well.opened
    in
    (let both = sym here ∙ never in cc)

apart-less : (r n : ℕ) → r ≤ n → (r ≡ n → ⊥) → r < n
apart-less r n most apart = by_tells (eqb_tells r n)
  where
    by_tells : ((r == n) ≡ true) × (r ≡ n) ⊎ ((r == n) ≡ false) × (r ≢ n) → r < n
    by_tells (inl (is, same)) = absurd (apart same)
    by_tells (inr (is, there)) = omega (arith, most, there)

not-most : (made r : ℕ) → (made ≤ r → ⊥) → r < made
not-most made r never = grind (arith, never)

new-origin : (says : Boot) (es : List Event) (r p slot fd line : ℕ) → RevokesAt says es r line → r < p
    → ((n : ℕ) → r < n → n ≤ p → IsShut (seen_after says es n) line) → MovesNamed says es p slot fd line → HasNewOrigin says es r p slot fd
new-origin says es r p slot fd line revoked less shut m =
    let well = opened_well_at says es p slot fd m.named m.at in
    let after : r < (m.named).name.made = not-most (m.named).name.made r (λ most. m.none r most less revoked) in
    let made = well.made in
    let past = well.past in
    let before : r < well.before = apart-less r well.before (omega (arith, after, made)) (not-same says es r p line m.named revoked well) in
    let asks = super-asks (seen_after says es well.before) well.event (at_offset 0 (m.named).file) line (shut well.before before (omega (arith, past))) m.target well.opened in
    record {
      origin = (m.named).name.made;
      is = origin_is says es p slot fd m.named m.at;
      later = omega (arith, before, made);
      asked = record {
        before = well.before;
        is = made;
        event = well.event;
        at = well.at;
        slot = asks.slot;
        c = asks.c;
        asks = asks.asks;
        runs = asks.runs;
        super = asks.super;
      };
    }

-- the law of a line that is shut after a revoke, of every run from a boot
pub shuts_window : (says : Boot) (es : List Event) → ShutsWindow says es
shuts_window says es = record {
  each = λ r p slot fd line revoked less shut m. new-origin says es r p slot fd line revoked less shut (moves_named says es p slot fd line m);
}
