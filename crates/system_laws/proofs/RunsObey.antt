-- Each run from a boot obeys the laws.
use Rattle.std.proofs.Common.{ℕ, ◌+◌, List, [], ◌∷◌, ◌∙◌}
use Rattle.call_words.specs.declared.event.Event.{Event}
use Rattle.user_db.specs.declared.boot.Boot.{Boot}
use Rattle.system_model.specs.State.{State, view, boot}
use Rattle.system_model.specs.Step.{step}
use Rattle.system_model.specs.Run.{Throughout, state_from}
use Rattle.system_laws.specs.Laws.{Waits}
use Rattle.system_laws.specs.Stands.{Within}
use Rattle.system_laws.specs.RunLaws.{WaitsBefore, ObeysLaws}
use Rattle.system_laws.proofs.Lawful.{refuses}
use Rattle.system_laws.proofs.Revocations.{revokes}
use Rattle.system_laws.proofs.RevokeMarks.{marks_revokes}
use Rattle.system_laws.proofs.Labels.{obeys_labels}
use Rattle.system_laws.proofs.OpenLabels.{opens_by_labels}
use Rattle.system_laws.proofs.OpenRuns.{are_opened_well}
use Rattle.system_laws.proofs.Runs.{view-ending, step_within, boot_within}
use Rattle.system_laws.proofs.SoundEvents.{ends_all}
use Rattle.system_laws.proofs.Waiting.{waiting}
use Rattle.system_laws.proofs.Sleepers.{wakes_sleepers}
use Rattle.system_laws.proofs.OriginRevokes.{have_origins}
use Rattle.system_laws.proofs.OriginLines.{moves_and_dies}
use Rattle.system_laws.proofs.ShutLines.{shuts_window}
use Rattle.system_laws.proofs.PassingLabels.{passes_by_labels}
use Rattle.system_laws.proofs.ReadAnswers.{reads_cells}
use Rattle.system_laws.proofs.RisingReads.{reads_rise, reads_well}
use Rattle.system_laws.proofs.SendAnswers.{sends_cells}
use Rattle.system_laws.proofs.OrderedTakes.{takes_climb, sent_well, begun_at}

-- what holds of every event in every state holds throughout
pub throughout : (P : State → ℕ → Event → Type 0) → ((s : State) (p : ℕ) (e : Event) → P s p e) → (s : State) (p : ℕ) (es : List Event) → Throughout P s p es
throughout P all s p [] = tt
throughout P all s p (e ∷ es) = (all s p e, throughout P all (step s p e).0 (p + 1) es)

waits-in : (s : State) (n : ℕ) → Within n s → Waits (view s)
waits-in s n within = waiting (view s) (view-ending s ∙ within.ending)

waits-from : (s : State) (n : ℕ) (es : List Event) → Within n s → Throughout WaitsBefore s (n + 1) es
waits-from s n [] within = tt
waits-from s n (e ∷ es) within = (waits-in s n within, waits-from (step s (n + 1) e).0 (n + 1) es (step_within s n e within))

waits-last : (s : State) (n : ℕ) (es : List Event) → Within n s → Waits (view (state_from s (n + 1) es))
waits-last s n [] within = waits-in s n within
waits-last s n (e ∷ es) within = waits-last (step s (n + 1) e).0 (n + 1) es (step_within s n e within)

pub obeys : (says : Boot) (es : List Event) → ObeysLaws says es
obeys says es = record {
  refusal = throughout _ refuses (boot says) 1 es;
  revocation = throughout _ revokes (boot says) 1 es;
  marks = throughout _ marks_revokes (boot says) 1 es;
  labels = throughout _ obeys_labels (boot says) 1 es;
  opens = throughout _ opens_by_labels (boot says) 1 es;
  origins = are_opened_well says es;
  waiting = waits-from (boot says) 0 es (boot_within says);
  waiting_at_last = waits-last (boot says) 0 es (boot_within says);
  endings = ends_all says es;
  sleepers = wakes_sleepers says es;
  descriptors = have_origins says es;
  moves = moves_and_dies says es;
  window = shuts_window says es;
  passing = passes_by_labels says es;
  provenance = record {
    answers = throughout _ reads_cells (boot says) 1 es;
    rising = reads_rise says es;
    brought = λ k n e at. reads_well says es k n e;
  };
  sending = record {
    answers = throughout _ sends_cells (boot says) 1 es;
    rising = takes_climb says es;
    put = λ k n e at. sent_well says es k n e;
    prefix = λ q n. begun_at says es q n;
  };
}
