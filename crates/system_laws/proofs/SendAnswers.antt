-- A taking answers the bytes of the cells that it takes from the line's output.
use Rattle.std.proofs.Common.{◌≡◌, ℕ, Bool, true, false, cond, List, [], ◌∷◌, ◌++◌, map, refl, sym, ap, ◌∙◌, arith}
use Rattle.std.specs.Prelude.{◌==◌, Option, Some, None, option_map}
use Rattle.call_words.specs.declared.event.Event.{Event}
use Rattle.call_words.specs.declared.event.Event.TheVariants as event
use Rattle.call_words.specs.declared.event.Decision.TheVariants.{Taken}
use Rattle.line_disc.specs.Discipline.{Discipline, map_discipline}
use Rattle.line_disc.specs.Device as device
use Rattle.line_disc.specs.Device.{Device}
use Rattle.line_disc.specs.Lines.{line_at}
use Rattle.line_disc.proofs.TransferMapLemmas.{output_front-map}
use Rattle.system_model.specs.State.{Tagged, byte_of, State, view}
use Rattle.system_model.specs.LineEffects.{take_output}
use Rattle.system_model.specs.Effects.{on_lines, change_all}
use Rattle.system_model.specs.Rows.{early, gone, check, behind, decision, done}
use Rattle.system_model.specs.Looks.{line_of}
use Rattle.system_model.specs.LineEvents.{take_row}
use Rattle.system_model.specs.Endings.{endings_of}
use Rattle.system_model.specs.Step.{answer_to}
use Rattle.system_laws.specs.ProvenanceLaws.{cells_sent_by_all, cells_sent, SendsCells}
use Rattle.system_laws.proofs.FileSteps.{line_at-map}
use Rattle.system_laws.proofs.AskedEffects.{no_line, ask_endings_of}
use Rattle.system_laws.proofs.OutputEvents.{sent-first}

front-of : (o : Option (Discipline Tagged)) (max : ℕ) → device.output_of max (option_map (map_discipline byte_of) o) ≡ map byte_of (device.output_of max o)
front-of None max = refl
front-of (Some d) max = sym (output_front-map byte_of d max)

seen-output : (s : State) (n max : ℕ)
    → device.output_of max (line_of (view s) n).discipline ≡ map byte_of (device.output_of max (line_at s.parts.lines n).discipline)
unfolding view
seen-output s n max =
    ap (λ (line : Device ℕ). device.output_of max line.discipline) (line_at-map s.parts.lines n) ∙ front-of (line_at s.parts.lines n).discipline max

same-line : (n : ℕ) → (n == n) ≡ true
same-line n = grind arith

same-bytes : (bs cs : List ℕ) → Taken bs ≡ Taken cs → bs ≡ cs
same-bytes bs cs is = cc

sends-take : (s : State) (p n max : ℕ) (bs : List ℕ) → answer_to (view s) (event.Take n max) ≡ Taken bs → bs ≡ map byte_of (cells_sent n s p (event.Take n max))
unfolding answer_to
sends-take s p n max bs says = by_halted (view s).halted says
  where
    by_halted : (t : Bool) → decision (behind (check t (early gone) [] ∷ []) (take_row (view s) n max)) ≡ Taken bs
        → bs ≡ map byte_of (cells_sent_by_all n s p
        (done (behind (check t (early gone) [] ∷ []) (take_row (view s) n max))
        ++ endings_of (change_all (view s) (done (behind (check t (early gone) [] ∷ []) (take_row (view s) n max))))))
    by_halted true is = cc
    by_halted false is =
        let take = on_lines (take_output n max) in
        let sent = device.output_of max (line_at s.parts.lines n).discipline in
        let after = change_all (view s) (take ∷ []) in
        let cells = sent-first n s p take no_line (endings_of after) (ask_endings_of no_line no_line after) in
        sym (same-bytes _ bs is)
        ∙ seen-output s n max
        ∙ ap (λ xs. map byte_of xs) (sym (cells ∙ ap (λ t. cond t sent []) (same-line n)))

pub sends_cells : (s : State) (p : ℕ) (e : Event) → SendsCells s p e
sends_cells s p e = record {
  bytes = λ n max bs is says.
      sends-take s p n max bs (ap (answer_to (view s)) (sym is) ∙ says) ∙ ap (λ d. map byte_of (cells_sent n s p d)) (sym is);
}
