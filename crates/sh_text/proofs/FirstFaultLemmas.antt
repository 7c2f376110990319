-- The fault of a whole text.
use Rattle.std.proofs.Common.{◌≡◌, ℕ, ◌+◌, ◌-◌, ◌<◌, List, [], ◌∷◌, ◌++◌, length, take, Result, Ok, Err, refl, sym, ap, ◌∙◌, arith, append_assoc, length-append}
use Rattle.std.proofs.lemmas.List.{take_at}
use Rattle.sh_text.specs.declared.fault.Stop.{Stop}
use Rattle.sh_text.specs.declared.tree.Job.{Job}
use Rattle.sh_text.specs.declared.tree.Line.{Line}
use Rattle.sh_text.specs.Reading.{jobs_at, with_place, line_of}
use Rattle.sh_text.specs.Grammar.{SpellsLine}
use Rattle.sh_text.specs.Faults.{BeginsLine, IsFirstFault}
use Rattle.sh_text.proofs.StepLemmas.{err_not_ok}
use Rattle.sh_text.proofs.LineGrammarLemmas.{jobs_from, jobs_at_from, line_spelled}
use Rattle.sh_text.proofs.FaultPlaceLemmas.{FaultPlace, line_fails}

abbrev line_with : List Job → Line
line_with jobs = record { jobs = jobs }

line_read : (text : List ℕ) (jobs : List Job) → jobs_from [] text ≡ Ok jobs → line_of text ≡ Ok (line_with jobs)
unfolding line_of
line_read text jobs e = ap (with_place text) (jobs_at_from text ∙ e)

line_not_read : (text : List ℕ) (stop : Stop) (line : Line) → jobs_from [] text ≡ Err stop → line_of text ≡ Ok line → ⊥
unfolding line_of
line_not_read text stop line e read = err_not_ok (length text - stop.left) line (sym (ap (with_place text) (jobs_at_from text ∙ e)) ∙ read)

before : (text front : List ℕ) (stop : Stop) (f : FaultPlace (jobs_from []) text stop) → front ≡ f.front → BeginsLine front
before text front stop f is =
    let whole : line_of (front ++ f.alive.0) ≡ Ok (line_with f.alive.2) =
    line_read (front ++ f.alive.0) f.alive.2 (ap (λ (t : List ℕ). jobs_from [] (t ++ f.alive.0)) is ∙ f.alive.3) in
    (f.alive.0, f.alive.1, line_with f.alive.2, (line_spelled (front ++ f.alive.0) (line_with f.alive.2)).0 whole)

none_there : (text front tail : List ℕ) (b : ℕ) (stop : Stop) (f : FaultPlace (jobs_from []) text stop) → f.rest ≡ b ∷ tail → front ≡ f.front ++ b ∷ []
    → BeginsLine front → ⊥
none_there text front tail b stop f rest is begins =
    let dead = f.dead (b ∷ begins.0) (rw rest refl) in
    let same : front ++ begins.0 ≡ f.front ++ b ∷ begins.0 = ap (λ (t : List ℕ). t ++ begins.0) is ∙ append_assoc f.front (b ∷ []) begins.0 in
    line_not_read (front ++ begins.0) dead.0 begins.2 (ap (jobs_from []) same ∙ dead.1) ((line_spelled (front ++ begins.0) begins.2).1 begins.3)

there : (text rest : List ℕ) (stop : Stop) (f : FaultPlace (jobs_from []) text stop) (place : ℕ) → f.rest ≡ rest → place ≡ length f.front → place < length text
    → BeginsLine (take (place + 1) text) → ⊥
there text [] stop f place is at less begins = absurd (omega (arith, at, ap length f.parts, length-append f.front f.rest, ap length is))
there text (b ∷ tail) stop f place is at less begins =
    let whole : text ≡ (f.front ++ b ∷ []) ++ tail = f.parts ∙ ap (λ (t : List ℕ). f.front ++ t) is ∙ sym (append_assoc f.front (b ∷ []) tail) in
    let longer : length (f.front ++ b ∷ []) ≡ place + 1 = omega (arith, at, length-append f.front (b ∷ [])) in
    none_there text (take (place + 1) text) tail b stop f is (ap (take (place + 1)) whole ∙ take_at (f.front ++ b ∷ []) tail (place + 1) longer) begins

first_fault : (text : List ℕ) (stop : Stop) → FaultPlace (jobs_from []) text stop → IsFirstFault text (length text - stop.left)
first_fault text stop f =
    let place : length text - stop.left ≡ length f.front = omega (arith, ap (λ (s : Stop). s.left) f.place, ap length f.parts, length-append f.front f.rest) in
    record {
      within = omega (arith, place, ap length f.parts, length-append f.front f.rest);
      before =
          before text (take (length text - stop.left) text) stop f
          (ap (take (length text - stop.left)) f.parts ∙ take_at f.front f.rest (length text - stop.left) (sym place));
      there = there text f.rest stop f (length text - stop.left) refl place;
    }

with_place_err : (text : List ℕ) (r : Result (List Job) Stop) (at : ℕ) → with_place text r ≡ Err at
    → (stop : Stop) × (r ≡ Err stop) × (at ≡ length text - stop.left)
with_place_err text (Ok jobs) at e = absurd cc
with_place_err text (Err stop) at e = (stop, refl, cc)

pub line_fault : (text : List ℕ) (at : ℕ) → line_of text ≡ Err at → IsFirstFault text at
unfolding line_of
line_fault text at e =
    let p = with_place_err text (jobs_at text) at e in
    rw p.2 (first_fault text p.0 (line_fails text p.0 (sym (jobs_at_from text) ∙ p.1)))

-- and no line is spelled so
pub line_fault_alone : (text : List ℕ) (at : ℕ) → line_of text ≡ Err at → IsFirstFault text at × ((line : Line) → SpellsLine text line → ⊥)
line_fault_alone text at e = (line_fault text at e, λ line spells. err_not_ok at line (sym e ∙ (line_spelled text line).1 spells))
