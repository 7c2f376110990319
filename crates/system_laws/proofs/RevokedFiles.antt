-- Right after an event that revokes a line each open file of the line is dead: what revokes opens no file, so each was made before.
use Rattle.std.proofs.Common.{◌≡◌, ◌⊎◌, inl, inr, ℕ, zero, suc, ◌+◌, ◌<◌, Bool, true, false, cond, List, [], ◌∷◌, ◌++◌, take, Option, Some, None, option_map}
use Rattle.std.proofs.Common.{refl, sym, ap, subst, ◌∙◌, arith}
use Rattle.std.specs.Prelude.{nat_lt, slice_get, ◌||◌}
use Rattle.std.specs.List.{list_any}
use Rattle.std.proofs.lemmas.Bool.Decides.{nat_tests}
use Rattle.call_words.specs.declared.call.Call.{Call}
use Rattle.call_words.specs.declared.event.Event.{Event}
use Rattle.user_db.specs.declared.boot.Boot.{Boot}
use Rattle.fd_table.specs.declared.open.Descriptor.{Descriptor}
use Rattle.fd_table.specs.Shared as shared
use Rattle.fd_table.specs.Shared.{Shared, descriptor_at, file_of}
use Rattle.fd_table.proofs.MapLemmas.{file_at-map}
use Rattle.system_model.specs.Parts.{tty}
use Rattle.system_model.specs.State.{NamedFile, OpenFile, State, View, view, Revokes, last_revoke, is_revoked, seen_file, boot}
use Rattle.system_model.specs.LineEffects.{LineEffect, open_line, receive_byte, read_line, write_line, take_output, set_carrier, end_line, revoke_line}
use Rattle.system_model.specs.LineEffects.{flush_line, retune_line, set_session, set_foreground}
use Rattle.system_model.specs.Effects.{Effect, on_files, on_pipes, on_lines, on_tree, on_processes, halt, tag, tag_all, change_all}
use Rattle.system_model.specs.Rows.{done}
use Rattle.system_model.specs.Looks.{file_at, holds_of}
use Rattle.system_model.specs.Endings.{endings_of}
use Rattle.system_model.specs.Step.{row, effects_of, step}
use Rattle.system_model.specs.Run.{state_from, state_after}
use Rattle.system_laws.specs.Laws.{line_revokes, is_revoke_of, revokes_line, SleepsAtRevoke}
use Rattle.system_laws.specs.Stands.{IsEarlier, AreEarlier, Within}
use Rattle.system_laws.proofs.LineSteps.{is_calm_line}
use Rattle.system_laws.proofs.SeenSteps.{earlier_tag, earlier-at}
use Rattle.system_laws.proofs.Openings.{is_calm, NoOpen, no_effect, next_effect, Calm, calm_end, calm_next, open-append, open_endings_of, Ordered}
use Rattle.system_laws.proofs.EventOpenings.{ordered_row, ordered_done}
use Rattle.system_laws.proofs.Runs.{calm-ending, view-ending, no-endings}
use Rattle.system_laws.proofs.RevokeMarks.{marks_revokes}
use Rattle.system_laws.proofs.OpenRuns.{within_at}
use Rattle.system_laws.proofs.SlotFiles.{HasDead}

-- ---- what revokes opens no file

calm-line : (n : ℕ) (e : LineEffect) → is_calm_line e ≡ true → line_revokes n e ≡ false
calm-line n (revoke_line m) is = cc
calm-line n (open_line m t) is = refl
calm-line n (receive_byte m b) is = refl
calm-line n (read_line m max) is = refl
calm-line n (write_line m bytes) is = refl
calm-line n (take_output m max) is = refl
calm-line n (set_carrier m up) is = refl
calm-line n (end_line m) is = refl
calm-line n (flush_line m input output) is = refl
calm-line n (retune_line m t) is = refl
calm-line n (set_session m session group) is = refl
calm-line n (set_foreground m group) is = refl

calm-one : (n : ℕ) (e : Effect) → is_calm e ≡ true → is_revoke_of n e ≡ false
calm-one n (on_files e) is = refl
calm-one n (on_pipes e) is = refl
calm-one n (on_lines e) is = calm-line n e is
calm-one n (on_tree e) is = refl
calm-one n (on_processes e) is = refl
calm-one n halt is = refl

pub calm-any : (n : ℕ) (es : List Effect) → Calm es → list_any (is_revoke_of n) es ≡ false
calm-any n [] calm_end = refl
calm-any n (e ∷ es) (calm_next _ _ is more) = rw (calm-one n e is, calm-any n es more) refl

pub none-behind : (n : ℕ) (es fs : List Effect) → fs ≡ [] → list_any (is_revoke_of n) es ≡ false → list_any (is_revoke_of n) (es ++ fs) ≡ false
none-behind n [] fs is none = ap (list_any (is_revoke_of n)) is
none-behind n (e ∷ es) fs is none = by_two (is_revoke_of n e) (list_any (is_revoke_of n) es) none (none-behind n es fs is)
  where
    by_two : (a b : Bool) → (a || b) ≡ false → (b ≡ false → list_any (is_revoke_of n) (es ++ fs) ≡ false) → (a || list_any (is_revoke_of n) (es ++ fs)) ≡ false
    by_two true b none more = cc
    by_two false b none more = more none

pub revoking-opens : (s : State) (q : ℕ) (e : Event) (n : ℕ) → Within q s → revokes_line (view s) e n ≡ true → NoOpen (effects_of (view s) e)
unfolding Ordered
revoking-opens s q e n within is = by_order (ordered_done (row (view s) e) (ordered_row (view s) e))
  where
    v : View
    v = view s

    es : List Effect
    es = done (row (view s) e)

    by_order : NoOpen es ⊎ Calm es → NoOpen (es ++ endings_of (change_all v es))
    by_order (inl opens) = open-append es _ opens (open_endings_of (change_all v es))
    by_order (inr calm) =
        let none : endings_of (change_all v es) ≡ [] = no-endings (change_all v es) (calm-ending v es calm ∙ view-ending s ∙ within.ending) in
        let never : list_any (is_revoke_of n) (es ++ endings_of (change_all v es)) ≡ false = none-behind n es _ none (calm-any n es calm) in
        absurd cc

still-earlier : (p q : ℕ) (s : State) (es : List Effect) → NoOpen es → AreEarlier q s.parts.descriptors.files
    → AreEarlier q (tag_all s p es).parts.descriptors.files
still-earlier p q s [] no_effect are = are
still-earlier p q s (e ∷ es) (next_effect _ _ is more) are = still-earlier p q (tag s p e) es more (earlier_tag q p s e (inl is) are)

-- ---- so an open file of the line is dead

earlier-file : (p : ℕ) (files : List (Option NamedFile)) (o : Option Descriptor) → AreEarlier p files → IsEarlier p (file_of files o)
earlier-file p files None are = tt
earlier-file p files (Some d) are = earlier-at p files d.entry are

less-test : (made last p : ℕ) → made < p → last ≡ p → nat_lt made last ≡ true
less-test made last p less is = grind (arith, nat_tests)

dead-one : (revokes : Revokes) (p line : ℕ) (g : NamedFile) (f : OpenFile) → seen_file revokes g ≡ f → f.file.target ≡ tty line → g.name.made < p
    → last_revoke revokes line ≡ p → f.dead ≡ true
dead-one revokes p line g f is of_line less last =
    let target : g.file.target ≡ tty line = ap (λ (x : OpenFile). x.file.target) is ∙ of_line in
    sym (ap (λ (x : OpenFile). x.dead) is)
    ∙ ap (is_revoked revokes g.name.made) target
    ∙ less-test g.name.made (last_revoke revokes line) p less last

dead-seen : (revokes : Revokes) (p line : ℕ) (o : Option NamedFile) (f : OpenFile) → IsEarlier p o → option_map (seen_file revokes) o ≡ Some f
    → f.file.target ≡ tty line → last_revoke revokes line ≡ p → f.dead ≡ true
dead-seen revokes p line None f earlier is of_line last = cc
dead-seen revokes p line (Some g) f earlier is of_line last =
    let same : seen_file revokes g ≡ f = cc in
    dead-one revokes p line g f same of_line earlier last

pub seen-at : (s : State) (slot fd : ℕ) → file_at (view s) slot fd ≡ option_map (seen_file s.revokes) (shared.file_at s.parts.descriptors slot fd)
unfolding view
seen-at s slot fd = file_at-map (seen_file s.revokes) s.parts.descriptors slot fd

revoked-dead : (s : State) (q : ℕ) (e : Event) (slot fd line : ℕ) (f : OpenFile) → Within q s → revokes_line (view s) e line ≡ true
    → file_at (view (step s (q + 1) e).0) slot fd ≡ Some f → f.file.target ≡ tty line → HasDead slot fd (view (step s (q + 1) e).0).descriptors
revoked-dead s q e slot fd line f within is there of_line =
    let after = (step s (q + 1) e).0 in
    let last : last_revoke after.revokes line ≡ q + 1 =
    (marks_revokes s (q + 1) e).marks line ∙ ap (λ t. cond t (q + 1) (last_revoke s.revokes line)) is
    in
    let are : AreEarlier (q + 1) after.parts.descriptors.files =
    still-earlier (q + 1) (q + 1) s (effects_of (view s) e) (revoking-opens s q e line within is) within.files
    in
    let earlier : IsEarlier (q + 1) (shared.file_at after.parts.descriptors slot fd) =
    earlier-file (q + 1) after.parts.descriptors.files (descriptor_at after.parts.descriptors.table slot fd) are
    in
    let dead : f.dead ≡ true =
    dead-seen after.revokes (q + 1) line (shared.file_at after.parts.descriptors slot fd) f earlier (sym (seen-at after slot fd) ∙ there) of_line last
    in
    ap (holds_of (λ g. g.dead)) there ∙ dead

-- ---- in a run

stepped : (es : List Event) (s : State) (p n : ℕ) (e : Event) → slice_get es n ≡ Some e
    → state_from s p (take (suc n) es) ≡ (step (state_from s p (take n es)) (p + n) e).0
stepped [] s p n e at = cc
stepped (d ∷ es) s p zero e at =
    let here : p ≡ p + 0 = omega arith in
    let same : d ≡ e = cc in
    ap (λ x. (step s p x).0) same ∙ ap (λ q. (step s q e).0) here
stepped (d ∷ es) s p (suc n) e at =
    let there : p + 1 + n ≡ p + suc n = omega arith in
    stepped es (step s p d).0 (p + 1) n e at ∙ ap (λ q. (step (state_from (step s p d).0 (p + 1) (take n es)) q e).0) there

pub after-event : (says : Boot) (es : List Event) (q : ℕ) (e : Event) → slice_get es q ≡ Some e
    → state_after says es (q + 1) ≡ (step (state_after says es q) (q + 1) e).0
after-event says es q e at =
    let next_is : q + 1 ≡ suc q = omega arith in
    let one : 1 + q ≡ q + 1 = omega arith in
    ap (λ n. state_after says es n) next_is ∙ stepped es (boot says) 1 q e at ∙ ap (λ p. (step (state_after says es q) p e).0) one

-- who sleeps at a revoke has a number of a dead file right after it
pub sleeps_dead : (says : Boot) (es : List Event) (q slot : ℕ) (c : Call) (sleeps : SleepsAtRevoke says es q slot c)
    → HasDead slot sleeps.waits.fd (view (state_after says es (q + 1))).descriptors
sleeps_dead says es q slot c sleeps =
    let w = sleeps.waits in
    let s = state_after says es q in
    let is = after-event says es q sleeps.event sleeps.at in
    subst (λ (t : State). HasDead slot w.fd (view t).descriptors) (sym is)
    (revoked-dead s q sleeps.event slot w.fd sleeps.line w.file (within_at says es q) sleeps.revoked
    (subst (λ (t : State). file_at (view t) slot w.fd ≡ Some w.file) is w.there) w.of_line)
