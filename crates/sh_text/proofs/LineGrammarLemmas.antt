-- What is read as a line is spelled so, and what is spelled so is read.
use Rattle.std.proofs.Common.{◌≡◌, ◌⊎◌, ℕ, zero, suc, ◌≤◌, false, List, [], ◌∷◌, ◌++◌, length, map, Result, Ok, Err, refl, sym, ap, ◌∙◌, arith, inl, inr, append_assoc, append-nil}
use Rattle.std.specs.Prelude.{flat_map, ◌↔◌}
use Rattle.std.specs.List.{AllByRecursion}
use Rattle.sh_text.specs.declared.tree.Job.{Job}
use Rattle.sh_text.specs.declared.tree.Line.{Line}
use Rattle.sh_text.specs.Bytes.{after_blanks}
use Rattle.sh_text.specs.Reading.{◌>>=◌, job_at, jobs_within, jobs_at, with_place, line_of}
use Rattle.sh_text.specs.Grammar.{JobWriting, IsJob, spelled_job, meant_job, EndedJob, IsEndedJob, spelled_ended_job, meant_ended_job, Last, nothing, last_job, IsLast, spelled_last, meant_last, LineWriting, IsLine, spelled_line, meant_line, SpellsLine}
use Rattle.sh_text.proofs.StepLemmas.{bind_ok, alike, ok_of, ok_is}
use Rattle.sh_text.proofs.BlankLemmas.{front, no_more, blanks_skipped}
use Rattle.sh_text.specs.declared.fault.Stop.{Stop}
use Rattle.sh_text.proofs.JobGrammarLemmas.{WithMark, WithoutMark, TakesJob, job_taken, job_shorter, job_same, job_begun, ended_job_again, last_job_again}

-- jobs one after the other, without a bound

none_within : (k : ℕ) (jobs : List Job) → jobs_within k jobs [] ≡ Ok jobs
unfolding jobs_within
none_within zero jobs = refl
none_within (suc k) jobs = refl

step_within : (k : ℕ) (jobs : List Job) (bytes : List ℕ) → 1 ≤ length bytes
    → jobs_within (suc k) jobs bytes ≡ (job_at bytes >>= λ job. jobs_within k (jobs ++ job.0 ∷ []) (after_blanks job.1))
unfolding jobs_within
step_within k jobs [] some = absurd (omega (arith, some))
step_within k jobs (b ∷ bytes) some = refl

-- two bounds, where one less of each gives the same
step_alike : (j k : ℕ) (jobs : List Job) (bytes : List ℕ) → length bytes ≤ suc j → length bytes ≤ suc k → 1 ≤ length bytes
    → ((jobs : List Job) (bytes : List ℕ) → length bytes ≤ j → length bytes ≤ k → jobs_within j jobs bytes ≡ jobs_within k jobs bytes)
    → jobs_within (suc j) jobs bytes ≡ jobs_within (suc k) jobs bytes
step_alike j k jobs bytes j_fits k_fits some each =
    step_within j jobs bytes some
    ∙ alike (job_at bytes) (λ job. jobs_within j (jobs ++ job.0 ∷ []) (after_blanks job.1)) (λ job. jobs_within k (jobs ++ job.0 ∷ []) (after_blanks job.1))
    (λ job e.
    let less = job_shorter bytes job e in
    let left = no_more job.1 in
    each (jobs ++ job.0 ∷ []) (after_blanks job.1) (omega (arith, left, less)) (omega (arith, left, less)))
    ∙ sym (step_within k jobs bytes some)

-- any bound of at least the number of bytes suffices
within_enough : (j k : ℕ) (jobs : List Job) (bytes : List ℕ) → length bytes ≤ j → length bytes ≤ k → jobs_within j jobs bytes ≡ jobs_within k jobs bytes
within_enough j k jobs [] j_fits k_fits = none_within j jobs ∙ sym (none_within k jobs)
within_enough zero k jobs (b ∷ bytes) j_fits k_fits = absurd (omega (arith, j_fits))
within_enough (suc j) zero jobs (b ∷ bytes) j_fits k_fits = absurd (omega (arith, k_fits))
within_enough (suc j) (suc k) jobs (b ∷ bytes) j_fits k_fits =
    step_alike j k jobs (b ∷ bytes) j_fits k_fits (omega arith) (λ jobs bytes j_fits k_fits. within_enough j k jobs bytes j_fits k_fits)

-- the jobs from these bytes on, and the blanks before each
pub jobs_from : List Job → List ℕ → Result (List Job) Stop
jobs_from jobs bytes = jobs_within (length (after_blanks bytes)) jobs (after_blanks bytes)

pub jobs_at_from : (bytes : List ℕ) → jobs_at bytes ≡ jobs_from [] bytes
unfolding jobs_at jobs_from
jobs_at_from bytes = refl

pub jobs_none : (jobs : List Job) (bytes : List ℕ) → after_blanks bytes ≡ [] → jobs_from jobs bytes ≡ Ok jobs
unfolding jobs_from
jobs_none jobs bytes none = rw none (none_within 0 jobs)

pub jobs_step : (jobs : List Job) (bytes : List ℕ) → 1 ≤ length (after_blanks bytes)
    → jobs_from jobs bytes ≡ (job_at bytes >>= λ job. jobs_from (jobs ++ job.0 ∷ []) job.1)
unfolding jobs_from
jobs_step jobs bytes some =
    let rest = after_blanks bytes in
    within_enough (length rest) (suc (length rest)) jobs rest (omega arith) (omega arith)
    ∙ step_within (length rest) jobs rest some
    ∙ alike (job_at rest) (λ job. jobs_within (length rest) (jobs ++ job.0 ∷ []) (after_blanks job.1))
    (λ job. jobs_within (length (after_blanks job.1)) (jobs ++ job.0 ∷ []) (after_blanks job.1)) (λ job e.
    within_enough (length rest) (length (after_blanks job.1)) (jobs ++ job.0 ∷ []) (after_blanks job.1) (omega (arith, no_more job.1, job_shorter rest job e))
    (omega arith))
    ∙ ap (λ (r : Result (Job × List ℕ) Stop). r >>= λ job. jobs_within (length (after_blanks job.1)) (jobs ++ job.0 ∷ []) (after_blanks job.1)) (job_same bytes)

-- blanks before them change nothing
pub jobs_same : (jobs : List Job) (bytes other : List ℕ) → after_blanks bytes ≡ after_blanks other → jobs_from jobs bytes ≡ jobs_from jobs other
unfolding jobs_from
jobs_same jobs bytes other same = ap (λ (rest : List ℕ). jobs_within (length rest) jobs rest) same

-- what is read is spelled

-- the jobs so far and those of the bytes
record TakesLine (jobs : List Job) (bytes : List ℕ) (all : List Job) : Type 0 where
  writing : LineWriting
  valid : IsLine writing
  parts : bytes ≡ spelled_line writing
  meaning : jobs ++ (map meant_ended_job writing.ended_jobs ++ meant_last writing.last) ≡ all

takes_blanks : (jobs : List Job) (bytes : List ℕ) (all : List Job) → after_blanks bytes ≡ [] → ok_of jobs ≡ Ok all → TakesLine jobs bytes all
takes_blanks jobs bytes all none e =
    let f = front bytes in
    record {
      writing = record { ended_jobs = []; last = nothing f.blanks };
      valid = (tt, f.are);
      parts = f.parts ∙ ap (λ (r : List ℕ). f.blanks ++ r) none ∙ append-nil f.blanks;
      meaning = append-nil jobs ∙ ok_is jobs all e;
    }

takes_last_job : (jobs : List Job) (bytes : List ℕ) (job : JobWriting) (x : Job × List ℕ) (all : List Job) → IsJob job → WithoutMark job bytes x
    → jobs_from (jobs ++ x.0 ∷ []) x.1 ≡ Ok all → TakesLine jobs bytes all
takes_last_job jobs bytes job x all is w e =
    let end : after_blanks x.1 ≡ [] = ap after_blanks w.none_left in
    record {
      writing = record { ended_jobs = []; last = last_job job };
      valid = (tt, is);
      parts = w.parts;
      meaning = ap (λ (j : Job). jobs ++ j ∷ []) w.meaning ∙ ok_is (jobs ++ x.0 ∷ []) all (sym (jobs_none (jobs ++ x.0 ∷ []) x.1 end) ∙ e);
    }

takes_ended_job : (jobs : List Job) (bytes : List ℕ) (job : JobWriting) (x : Job × List ℕ) (all : List Job) → IsJob job → WithMark job bytes x
    → TakesLine (jobs ++ x.0 ∷ []) x.1 all → TakesLine jobs bytes all
takes_ended_job jobs bytes job x all is m t =
    let first : EndedJob = record { job = job; end = m.end } in
    record {
      writing = record { ended_jobs = first ∷ t.writing.ended_jobs; last = t.writing.last };
      valid = ((is, t.valid.0), t.valid.1);
      parts =
          m.parts ∙ ap (λ (r : List ℕ). spelled_ended_job first ++ r) t.parts
          ∙ sym (append_assoc (spelled_ended_job first) (flat_map spelled_ended_job t.writing.ended_jobs) (spelled_last t.writing.last));
      meaning = ap (λ (j : Job). jobs ++ (j ∷ (map meant_ended_job t.writing.ended_jobs ++ meant_last t.writing.last))) m.meaning
          ∙ sym (append_assoc jobs (x.0 ∷ []) (map meant_ended_job t.writing.ended_jobs ++ meant_last t.writing.last)) ∙ t.meaning;
    }

some_or_none : (bytes : List ℕ) → (bytes ≡ []) ⊎ (1 ≤ length bytes)
some_or_none [] = inl refl
some_or_none (b ∷ bytes) = inr (omega arith)

takes_step : (jobs : List Job) (bytes : List ℕ) (all : List Job) (x : Job × List ℕ) → TakesJob bytes x → jobs_from (jobs ++ x.0 ∷ []) x.1 ≡ Ok all
    → TakesLine (jobs ++ x.0 ∷ []) x.1 all → TakesLine jobs bytes all
takes_step jobs bytes all x t e others =
    elim t.ends [ inl m ↦ takes_ended_job jobs bytes t.job x all t.valid m others | inr w ↦ takes_last_job jobs bytes t.job x all t.valid w e ]

jobs_taken : (n : ℕ) (jobs : List Job) (bytes : List ℕ) (all : List Job) → length (after_blanks bytes) ≤ n → jobs_from jobs bytes ≡ Ok all
    → TakesLine jobs bytes all
jobs_taken zero jobs bytes all fits e = elim (some_or_none (after_blanks bytes)) [
  | inl none ↦ takes_blanks jobs bytes all none (sym (jobs_none jobs bytes none) ∙ e)
  | inr some ↦ absurd (omega (arith, fits, some))
]
jobs_taken (suc n) jobs bytes all fits e = elim (some_or_none (after_blanks bytes)) [
  | inl none ↦ takes_blanks jobs bytes all none (sym (jobs_none jobs bytes none) ∙ e)
  | inr some ↦
      let a = bind_ok (job_at bytes) (λ job. jobs_from (jobs ++ job.0 ∷ []) job.1) all (sym (jobs_step jobs bytes some) ∙ e) in
      takes_step jobs bytes all a.0 (job_taken bytes a.0 a.1) a.2
      (jobs_taken n (jobs ++ a.0.0 ∷ []) a.0.1 all (omega (arith, no_more a.0.1, job_begun bytes a.0 a.1, fits)) a.2)
]

abbrev line_with : List Job → Line
line_with jobs = record { jobs = jobs }

with_place_ok : (text : List ℕ) (r : Result (List Job) Stop) (line : Line) → with_place text r ≡ Ok line → r ≡ Ok line.jobs
with_place_ok text (Ok jobs) line e = ap (λ (l : Line). Ok l.jobs) cc
with_place_ok text (Err left) line e = absurd cc

pub line_taken : (text : List ℕ) (line : Line) → line_of text ≡ Ok line → SpellsLine text line
unfolding line_of
line_taken text line e =
    let t = jobs_taken (length (after_blanks text)) [] text line.jobs (omega arith) (sym (jobs_at_from text) ∙ with_place_ok text (jobs_at text) line e) in
    record { writing = t.writing; valid = t.valid; spelling = t.parts; meaning = ap line_with t.meaning }

-- what is spelled is read

ended_job_then : (jobs : List Job) (ended_job : EndedJob) (rest : List ℕ) → IsEndedJob ended_job
    → jobs_from jobs (spelled_ended_job ended_job ++ rest) ≡ jobs_from (jobs ++ meant_ended_job ended_job ∷ []) rest
ended_job_then jobs ended_job rest is =
    let text = spelled_ended_job ended_job ++ rest in
    let read : job_at text ≡ Ok (meant_ended_job ended_job, rest) = ended_job_again ended_job.job ended_job.end rest is in
    let begun = job_begun text (meant_ended_job ended_job, rest) read in
    jobs_step jobs text (omega (arith, begun)) ∙ rw read refl

last_again : (jobs : List Job) (last : Last) → IsLast last → jobs_from jobs (spelled_last last) ≡ Ok (jobs ++ meant_last last)
last_again jobs (nothing blanks) is =
    let none : after_blanks blanks ≡ [] = ap after_blanks (sym (append-nil blanks)) ∙ blanks_skipped blanks [] is in
    jobs_none jobs blanks none ∙ ap (λ (js : List Job). Ok js) (sym (append-nil jobs))
last_again jobs (last_job job) is =
    let read = last_job_again job is in
    let begun = job_begun (spelled_job job) (meant_job false job, []) read in
    jobs_step jobs (spelled_job job) (omega (arith, begun)) ∙ rw read (jobs_none (jobs ++ meant_job false job ∷ []) [] refl)

jobs_again : (jobs : List Job) (ended : List EndedJob) (last : Last) → AllByRecursion IsEndedJob ended → IsLast last
    → jobs_from jobs (flat_map spelled_ended_job ended ++ spelled_last last) ≡ Ok (jobs ++ (map meant_ended_job ended ++ meant_last last))
jobs_again jobs [] last are is = last_again jobs last is
jobs_again jobs (first ∷ ended) last are is =
    ap (jobs_from jobs) (append_assoc (spelled_ended_job first) (flat_map spelled_ended_job ended) (spelled_last last))
    ∙ ended_job_then jobs first (flat_map spelled_ended_job ended ++ spelled_last last) are.0
    ∙ jobs_again (jobs ++ meant_ended_job first ∷ []) ended last are.1 is
    ∙ ap (λ (js : List Job). Ok js) (append_assoc jobs (meant_ended_job first ∷ []) (map meant_ended_job ended ++ meant_last last))

line_again : (text : List ℕ) (line : Line) → SpellsLine text line → line_of text ≡ Ok line
unfolding line_of
line_again text line s =
    let read : jobs_at text ≡ Ok (meant_line s.writing).jobs =
    jobs_at_from text ∙ ap (jobs_from []) s.spelling ∙ jobs_again [] s.writing.ended_jobs s.writing.last s.valid.0 s.valid.1 in
    ap (with_place text) read ∙ ap (λ (l : Line). Ok l) s.meaning

pub line_spelled : (text : List ℕ) (line : Line) → (line_of text ≡ Ok line) ↔ SpellsLine text line
line_spelled text line = (line_taken text line, line_again text line)
