-- Bytes of a line move through a number only while no event revoked the line after the number's origin.
use Rattle.std.proofs.Common.{◌≡◌, inl, inr, ℕ, zero, suc, ◌+◌, ◌<◌, ◌≤◌, Bool, true, false, cond, List, [], ◌∷◌, Option, Some, None, option_map}
use Rattle.std.proofs.Common.{refl, ap, sym, subst, ◌∙◌, arith}
use Rattle.std.specs.Prelude.{◌-◌, nat_lt}
use Rattle.std.proofs.lemmas.Bool.Decides.{nat_tests}
use Rattle.call_words.specs.declared.call.Call.TheVariants as call
use Rattle.call_words.specs.declared.event.Event.{Event}
use Rattle.call_words.specs.declared.event.Reply.TheVariants.{Num, Bytes}
use Rattle.call_words.specs.declared.event.Decision.TheVariants.{Answer}
use Rattle.user_db.specs.declared.boot.Boot.{Boot}
use Rattle.fd_table.specs.declared.open.Descriptor.{Descriptor}
use Rattle.fd_table.specs.Shared as shared
use Rattle.fd_table.specs.Shared.{entry_at}
use Rattle.system_model.specs.Parts.{tty}
use Rattle.system_model.specs.State.{NamedFile, OpenFile, State, View, view, boot, last_revoke, is_revoked, seen_file}
use Rattle.system_model.specs.Looks.{file_at, holds_of}
use Rattle.system_model.specs.Step.{step}
use Rattle.system_model.specs.Run.{state_after}
use Rattle.system_laws.specs.Laws.{IsDeadAnswer, revokes_line, IsOpenedWell}
use Rattle.system_laws.specs.OriginLaws.{seen_after, HaveOrigins, MovesBytes, by_read, by_write, MovesAt, RevokesAt, HasNoRevokeSince}
use Rattle.system_laws.proofs.Revocations.{dead_answers}
use Rattle.system_laws.proofs.RevokeMarks.{marks_revokes}
use Rattle.system_laws.proofs.OpenRuns.{Next, over, further, next, are_opened_well}
use Rattle.system_laws.proofs.RevokedFiles.{after-event, seen-at}
use Rattle.system_laws.proofs.MakerAnswers.{own_runs}
use Rattle.system_laws.proofs.OriginEvents.{origin_is}

-- ---- the last revoke

later-case : (t : Bool) (q n last : ℕ) → q + 1 ≤ n → q + 1 ≤ last → q + 1 ≤ cond t (1 + n) last
later-case true q n last late least = omega (arith, late)
later-case false q n last late least = least

revoked-next : (says : Boot) (es : List Event) (q line n : ℕ) → q + 1 ≤ n → q + 1 ≤ last_revoke (state_after says es n).revokes line
    → Next (boot says) 1 es n → q + 1 ≤ last_revoke (state_after says es (suc n)).revokes line
revoked-next says es q line n late before (over same) = subst (λ (t : State). q + 1 ≤ last_revoke t.revokes line) (sym same) before
revoked-next says es q line n late before (further e at is) =
    let s = state_after says es n in
    subst (λ (t : State). q + 1 ≤ last_revoke t.revokes line) (sym is)
    (subst (λ m. q + 1 ≤ m) (sym ((marks_revokes s (1 + n) e).marks line))
    (later-case (revokes_line (view s) e line) q n (last_revoke s.revokes line) late before))

-- once a line was revoked its last revoke is no earlier
revoked-since : (says : Boot) (es : List Event) (q line : ℕ) → RevokesAt says es q line → (k : ℕ)
    → q + 1 ≤ last_revoke (state_after says es (q + 1 + k)).revokes line
revoked-since says es q line r zero =
    let s = state_after says es q in
    let here : q + 1 + 0 ≡ q + 1 = omega arith in
    let last : last_revoke (step s (q + 1) r.event).0.revokes line ≡ q + 1 =
    (marks_revokes s (q + 1) r.event).marks line ∙ ap (λ t. cond t (q + 1) (last_revoke s.revokes line)) r.revoked
    in
    let same : last_revoke (state_after says es (q + 1 + 0)).revokes line ≡ q + 1 =
    ap (λ n. last_revoke (state_after says es n).revokes line) here ∙ ap (λ (t : State). last_revoke t.revokes line) (after-event says es q r.event r.at) ∙ last
    in
    omega (arith, same)
revoked-since says es q line r (suc k) =
    let here : q + 1 + suc k ≡ suc (q + 1 + k) = omega arith in
    subst (λ n. q + 1 ≤ last_revoke (state_after says es n).revokes line) (sym here)
    (revoked-next says es q line (q + 1 + k) (omega arith) (revoked-since says es q line r k) (next es (boot says) 1 (q + 1 + k)))

pub revoked_before : (says : Boot) (es : List Event) (q p line : ℕ) → RevokesAt says es q line → q < p → q + 1 ≤ last_revoke (state_after says es p).revokes line
revoked_before says es q p line r less =
    let here : q + 1 + (p - (q + 1)) ≡ p = omega (arith, less) in
    subst (λ n. q + 1 ≤ last_revoke (state_after says es n).revokes line) here (revoked-since says es q line r (p - (q + 1)))

-- ---- the file of a number

-- what calls see of a number is a file with a name
pub record SeenFile (s : State) (slot fd : ℕ) (f : OpenFile) : Type 0 where
  pub named : NamedFile
  pub at : shared.file_at s.parts.descriptors slot fd ≡ Some named
  pub seen : seen_file s.revokes named ≡ f

seen-some : (s : State) (slot fd : ℕ) (f : OpenFile) (o : Option NamedFile) → shared.file_at s.parts.descriptors slot fd ≡ o
    → option_map (seen_file s.revokes) o ≡ Some f → SeenFile s slot fd f
seen-some s slot fd f None is there = cc
seen-some s slot fd f (Some g) is there = record { named = g; at = is; seen = cc }

pub seen_some : (s : State) (slot fd : ℕ) (f : OpenFile) → file_at (view s) slot fd ≡ Some f → SeenFile s slot fd f
seen_some s slot fd f there =
    seen-some s slot fd f (shared.file_at s.parts.descriptors slot fd) refl (sym (seen-at s slot fd) ∙ there)

entry-some : (files : List (Option NamedFile)) (d : Option Descriptor) (f : NamedFile) → shared.file_of files d ≡ Some f
    → (entry : ℕ) × (entry_at files entry ≡ Some f)
entry-some files None f is = cc
entry-some files (Some d) f is = (d.entry, is)

-- the law of origins, of every run from a boot
pub opened_well_at : (says : Boot) (es : List Event) (n slot fd : ℕ) (f : NamedFile) → shared.file_at (state_after says es n).parts.descriptors slot fd ≡ Some f
    → IsOpenedWell says es n f
opened_well_at says es n slot fd f is =
    let t = (state_after says es n).parts.descriptors in
    let entry = entry-some t.files (shared.descriptor_at t.table slot fd) f is in
    (are_opened_well says es).each n entry.0 f entry.1

pub have_origins : (says : Boot) (es : List Event) → HaveOrigins says es
have_origins says es = record { made = origin_is says es; opened = opened_well_at says es }

-- ---- dead files

less-test : (a b : ℕ) → a < b → nat_lt a b ≡ true
less-test a b less = grind (arith, nat_tests)

-- a file of a line that was revoked after the file's position is dead
pub dead_since : (says : Boot) (es : List Event) (q p line : ℕ) (g : NamedFile) → RevokesAt says es q line → q < p → g.name.made ≤ q
    → g.file.target ≡ tty line → (seen_file (state_after says es p).revokes g).dead ≡ true
dead_since says es q p line g r less later target =
    let last = revoked_before says es q p line r less in
    ap (is_revoked (state_after says es p).revokes g.name.made) target
    ∙ less-test g.name.made (last_revoke (state_after says es p).revokes line) (omega (arith, later, last))

some-bytes : (b : ℕ) (bs : List ℕ) → Answer (Bytes (b ∷ bs)) ≡ Answer (Bytes []) → ⊥
some-bytes b bs is = cc

no-read : (fd max b : ℕ) (bs : List ℕ) → IsDeadAnswer (call.Read fd max) (Answer (Bytes (b ∷ bs))) → ⊥
no-read fd max b bs (inl is) = cc
no-read fd max b bs (inr (inl is)) = cc
no-read fd max b bs (inr (inr is)) = cc

no-write : (fd n : ℕ) (bs : List ℕ) → IsDeadAnswer (call.Write fd bs) (Answer (Num n)) → ⊥
no-write fd n bs (inl is) = cc
no-write fd n bs (inr is) = cc

-- through a dead file no byte moves
pub record MovesThrough (v : View) (slot fd line : ℕ) : Type 0 where
  pub file : OpenFile
  pub there : file_at v slot fd ≡ Some file
  pub of_line : file.file.target ≡ tty line
  pub alive : file.dead ≡ true → ⊥

moved-through : (v : View) (e : Event) (slot fd line : ℕ) → MovesBytes v e slot fd line → MovesThrough v slot fd line
moved-through v e slot fd line (by_read max b bs f asks is there target) = record {
  file = f;
  there = there;
  of_line = target;
  alive = λ dead.
      no-read fd max b bs
      (subst (IsDeadAnswer (call.Read fd max)) is
      (dead_answers v e slot (call.Read fd max) asks (own_runs v e slot (call.Read fd max) asks (rw is refl)) (ap (holds_of (λ g. g.dead)) there ∙ dead)));
}
moved-through v e slot fd line (by_write n bs f asks is there target) = record {
  file = f;
  there = there;
  of_line = target;
  alive = λ dead.
      no-write fd (suc n) bs
      (subst (IsDeadAnswer (call.Write fd bs)) is
      (dead_answers v e slot (call.Write fd bs) asks (own_runs v e slot (call.Write fd bs) asks (rw is refl)) (ap (holds_of (λ g. g.dead)) there ∙ dead)));
}

-- ---- what moves a byte of a line

-- the file through which bytes move, with its name
pub record MovesNamed (says : Boot) (es : List Event) (p slot fd line : ℕ) : Type 0 where
  pub named : NamedFile
  pub at : shared.file_at (state_after says es p).parts.descriptors slot fd ≡ Some named
  pub target : named.file.target ≡ tty line
  pub none : (q : ℕ) → named.name.made ≤ q → q < p → RevokesAt says es q line → ⊥

pub moves_named : (says : Boot) (es : List Event) (p slot fd line : ℕ) → MovesAt says es p slot fd line → MovesNamed says es p slot fd line
moves_named says es p slot fd line m =
    let through = moved-through (seen_after says es p) m.event slot fd line m.moves in
    let g = seen_some (state_after says es p) slot fd through.file through.there in
    let target : (g.named).file.target ≡ tty line = ap (λ (x : OpenFile). x.file.target) g.seen ∙ through.of_line in
    record {
      named = g.named;
      at = g.at;
      target = target;
      none = λ q later less revoked.
          through.alive (sym (ap (λ (x : OpenFile). x.dead) g.seen) ∙ dead_since says es q p line g.named revoked less later target);
    }

pub moves_unrevoked : (says : Boot) (es : List Event) (p slot fd line : ℕ) → MovesAt says es p slot fd line → HasNoRevokeSince says es p slot fd line
moves_unrevoked says es p slot fd line m =
    let f = moves_named says es p slot fd line m in
    record { origin = (f.named).name.made; is = origin_is says es p slot fd f.named f.at; none = f.none }
