-- What is still to come of a load is its next event and what comes after it.
use Rattle.std.proofs.Common.{◌≡◌, ℕ, zero, suc, ◌+◌, ◌-◌, ◌<◌, ◌≤◌, List, [], ◌∷◌, ◌++◌, drop, Some, refl, ap, arith}
use Rattle.std.specs.Prelude.{slice_get}
use Rattle.std.proofs.lemmas.List.{drop_all}
use Rattle.rand_pcg.specs.Lcg.{Lcg}
use Rattle.rand_pcg.specs.Pcg.{pcg32}
use Rattle.call_words.specs.declared.event.Event.{Event}
use Rattle.event_load.specs.Load.{opening, drawn_event, drawn_events}

-- an opening event
pub opening_comes : (at : ℕ) (e : Event) (more : List Event) → at < 4 → slice_get opening at ≡ Some e
    → drop at opening ++ more ≡ e ∷ (drop (at + 1) opening ++ more)
opening_comes zero e more within is = cc
opening_comes (suc zero) e more within is = cc
opening_comes (suc (suc zero)) e more within is = cc
opening_comes (suc (suc (suc zero))) e more within is = cc
opening_comes (suc (suc (suc (suc at)))) e more within is = absurd (omega arith)

-- the event that the next word draws
pub drawn_comes : (at n : ℕ) (g : Lcg) (word : ℕ) (next : Lcg) (e : Event) → 4 ≤ at → 0 < n → (word, next) ≡ pcg32 g → e ≡ drawn_event word
    → drop at opening ++ drawn_events n g ≡ e ∷ (drop at opening ++ drawn_events (n - 1) next)
drawn_comes at zero g word next e past some step is = absurd (omega arith)
drawn_comes at (suc k) g word next e past some step is =
    let none : drop at opening ≡ [] = drop_all at opening past in
    let fewer : suc k - 1 ≡ k = omega arith in
    let first : word ≡ (pcg32 g).0 = ap (λ (p : ℕ × Lcg). p.0) step in
    let rest : next ≡ (pcg32 g).1 = ap (λ (p : ℕ × Lcg). p.1) step in
    rw (none, fewer, is, first, rest) refl
