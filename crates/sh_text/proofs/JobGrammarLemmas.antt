-- What is read as a job is spelled so, and what is spelled so is read.
use Rattle.std.proofs.Common.{◌≡◌, ◌⊎◌, ℕ, zero, suc, ◌-◌, ◌≤◌, ◌<◌, Bool, true, false, cond, eqb, List, [], ◌∷◌, ◌++◌, length, drop, map, Result, Ok, Err, refl, sym, ap, ◌∙◌, arith, inl, inr, append_assoc, append-nil, length-append}
use Rattle.std.specs.Prelude.{⊤, codes, flat_map}
use Rattle.std.specs.List.{AllByRecursion}
use Rattle.std.proofs.lemmas.Bool.{cases_Bool, eqb-true}
use Rattle.sh_text.specs.declared.tree.Command.{Command}
use Rattle.sh_text.specs.declared.tree.Job.{Job}
use Rattle.sh_text.specs.declared.jobs.TheConstants.{MOST_COMMANDS}
use Rattle.sh_text.specs.Bytes.{after_blanks, begins}
use Rattle.sh_text.specs.Reading.{◌>>=◌, command_at, commands_within, commands_at, ending_at, job_at, stop_at}
use Rattle.sh_text.specs.Grammar.{CommandWriting, IsCommand, spelled_command, meant_command, JobWriting, IsJob, spelled_job, meant_job, End, semicolon, ampersand, spelled_end, is_background}
use Rattle.sh_text.proofs.StepLemmas.{bind_ok, choice_cases, ok_of, ok_is, err_not_ok}
use Rattle.sh_text.proofs.BlankLemmas.{twice}
use Rattle.sh_text.specs.declared.fault.Stop.{Stop}
use Rattle.sh_text.proofs.CommandGrammarLemmas.{TakesCommand, command_taken, AtMark, command_again, command_some, command_same}

abbrev behind_bar : CommandWriting → List ℕ
behind_bar command = codes "|" ++ spelled_command command

-- commands at the front of the bytes, of which there are at most so many more than one
record TakesCommands (most : ℕ) (commands : List Command) (bytes : List ℕ) (x : List Command × List ℕ) : Type 0 where
  first : CommandWriting
  more : List CommandWriting
  valid : AllByRecursion IsCommand (first ∷ more)
  few : length more ≤ most
  parts : bytes ≡ (spelled_command first ++ flat_map behind_bar more) ++ x.1
  meaning : commands ++ map meant_command (first ∷ more) ≡ x.0

takes_last : (most : ℕ) (commands : List Command) (bytes : List ℕ) (c : Command × List ℕ) (x : List Command × List ℕ) → TakesCommand bytes c
    → ok_of (commands ++ c.0 ∷ [], c.1) ≡ Ok x → TakesCommands most commands bytes x
takes_last most commands bytes c x t e = rw (← ok_is (commands ++ c.0 ∷ [], c.1) x e) (record {
  first = t.writing;
  more = [];
  valid = (t.valid, tt);
  few = omega arith;
  parts = t.parts ∙ ap (λ (r : List ℕ). r ++ c.1) (sym (append-nil (spelled_command t.writing)));
  meaning = ap (λ (c : Command). commands ++ c ∷ []) t.meaning;
})

takes_more : (most : ℕ) (commands : List Command) (bytes rest : List ℕ) (c : Command × List ℕ) (x : List Command × List ℕ) → TakesCommand bytes c
    → c.1 ≡ 124 ∷ rest → TakesCommands most (commands ++ c.0 ∷ []) rest x → TakesCommands (suc most) commands bytes x
takes_more most commands bytes rest c x t bar m = record {
  first = t.writing;
  more = m.first ∷ m.more;
  valid = (t.valid, m.valid);
  few = omega (arith, m.few);
  parts =
      t.parts ∙ ap (λ (r : List ℕ). spelled_command t.writing ++ r) (bar ∙ ap (λ (r : List ℕ). 124 ∷ r) m.parts)
      ∙ sym (append_assoc (spelled_command t.writing) (flat_map behind_bar (m.first ∷ m.more)) x.1);
  meaning =
      ap (λ (c : Command). commands ++ c ∷ map meant_command (m.first ∷ m.more)) t.meaning
      ∙ sym (append_assoc commands (c.0 ∷ []) (map meant_command (m.first ∷ m.more))) ∙ m.meaning;
}

begins_cons : (b : ℕ) (bytes : List ℕ) → begins b bytes ≡ true → bytes ≡ b ∷ drop 1 bytes
begins_cons b [] is = absurd cc
begins_cons b (c ∷ bytes) is = ap (λ k. k ∷ bytes) (eqb-true c b is)

commands_taken : (most : ℕ) (commands : List Command) (bytes : List ℕ) (x : List Command × List ℕ) → commands_within most commands bytes ≡ Ok x
    → TakesCommands most commands bytes x
unfolding commands_within
commands_taken zero commands bytes x e =
    let a = bind_ok (command_at bytes) (λ read. Ok (commands ++ read.0 ∷ [], read.1)) x e in
    takes_last 0 commands bytes a.0 x (command_taken bytes a.0 a.1) a.2
commands_taken (suc most) commands bytes x e =
    let a =
    bind_ok (command_at bytes)
    (λ read. cond (begins 124 read.1) (commands_within most (commands ++ read.0 ∷ []) (drop 1 read.1)) (Ok (commands ++ read.0 ∷ [], read.1))) x e in
    elim (choice_cases (begins 124 a.0.1) (commands_within most (commands ++ a.0.0 ∷ []) (drop 1 a.0.1)) (Ok (commands ++ a.0.0 ∷ [], a.0.1)) (ok_of x) a.2) [
      | inl bar ↦
          takes_more most commands bytes (drop 1 a.0.1) a.0 x (command_taken bytes a.0 a.1) (begins_cons 124 a.0.1 bar.0)
          (commands_taken most (commands ++ a.0.0 ∷ []) (drop 1 a.0.1) x bar.1)
      | inr last ↦ takes_last (suc most) commands bytes a.0 x (command_taken bytes a.0 a.1) last.1
    ]

-- the commands of a job are at the front of the bytes, and the rest follows
record TakesAll (bytes : List ℕ) (x : List Command × List ℕ) : Type 0 where
  job : JobWriting
  valid : IsJob job
  parts : bytes ≡ spelled_job job ++ x.1
  meaning : map meant_command (job.first ∷ job.more) ≡ x.0

all_taken : (bytes : List ℕ) (x : List Command × List ℕ) → commands_at bytes ≡ Ok x → TakesAll bytes x
unfolding commands_at
all_taken bytes x e =
    let t = commands_taken (MOST_COMMANDS - 1) [] bytes x e in
    let few : length t.more ≤ 7 = t.few in
    record { job = record { first = t.first; more = t.more }; valid = (t.valid, omega (arith, few)); parts = t.parts; meaning = t.meaning }

-- a job with its mark, and the rest
pub record WithMark (job : JobWriting) (bytes : List ℕ) (x : Job × List ℕ) : Type 0 where
  pub end : End
  pub parts : bytes ≡ (spelled_job job ++ spelled_end end) ++ x.1
  pub meaning : meant_job (is_background end) job ≡ x.0

-- a job without a mark, at the end of the bytes
pub record WithoutMark (job : JobWriting) (bytes : List ℕ) (x : Job × List ℕ) : Type 0 where
  pub parts : bytes ≡ spelled_job job
  pub none_left : x.1 ≡ []
  pub meaning : meant_job false job ≡ x.0

pub record TakesJob (bytes : List ℕ) (x : Job × List ℕ) : Type 0 where
  pub job : JobWriting
  pub valid : IsJob job
  pub ends : WithMark job bytes x ⊎ WithoutMark job bytes x

abbrev job_of : List Command → Bool → Job
job_of commands background = record { commands = commands; background = background }

abbrev end_with : List Command → Bool × List ℕ → Result (Job × List ℕ) Stop
end_with commands ending = Ok (job_of commands ending.0, ending.1)

without_mark : (bytes : List ℕ) (commands : List Command) (x : Job × List ℕ) → TakesAll bytes (commands, []) → ok_of (job_of commands false, []) ≡ Ok x
    → TakesJob bytes x
without_mark bytes commands x t e = rw (← ok_is (job_of commands false, []) x e) (record {
  job = t.job;
  valid = t.valid;
  ends = inr (record { parts = t.parts ∙ append-nil (spelled_job t.job); none_left = refl; meaning = ap (λ (cs : List Command). job_of cs false) t.meaning });
})

with_mark : (end : End) (bytes rest : List ℕ) (commands : List Command) (x : Job × List ℕ) → TakesAll bytes (commands, spelled_end end ++ rest)
    → ok_of (job_of commands (is_background end), rest) ≡ Ok x → TakesJob bytes x
with_mark end bytes rest commands x t e = rw (← ok_is (job_of commands (is_background end), rest) x e) (record {
  job = t.job;
  valid = t.valid;
  ends =
      inl
      (record {
        end = end;
        parts = t.parts ∙ sym (append_assoc (spelled_job t.job) (spelled_end end) rest);
        meaning = ap (λ (cs : List Command). job_of cs (is_background end)) t.meaning;
      });
})

takes_byte : (b : ℕ) (bytes rest : List ℕ) (commands : List Command) (x : Job × List ℕ) → TakesAll bytes (commands, b ∷ rest)
    → (ending_at (b ∷ rest) >>= end_with commands) ≡ Ok x → TakesJob bytes x
takes_byte b bytes rest commands x t e = elim (cases_Bool (eqb b 59)) [
  | inl is ↦ with_mark semicolon bytes rest commands x (rw (eqb-true b 59 is) at t) (sym (at_semicolon is) ∙ e)
  | inr no_semicolon ↦ elim (cases_Bool (eqb b 38)) [
    | inl is ↦ with_mark ampersand bytes rest commands x (rw (eqb-true b 38 is) at t) (sym (at_ampersand no_semicolon is) ∙ e)
    | inr none ↦ err_not_ok (stop_at (b ∷ rest)) x (sym (at_other no_semicolon none) ∙ e)
  ]
]
  where
    at_semicolon : eqb b 59 ≡ true → (ending_at (b ∷ rest) >>= end_with commands) ≡ ok_of (job_of commands false, rest)
    at_semicolon is = rw is refl

    at_ampersand : eqb b 59 ≡ false → eqb b 38 ≡ true → (ending_at (b ∷ rest) >>= end_with commands) ≡ ok_of (job_of commands true, rest)
    at_ampersand no_semicolon is = rw (no_semicolon, is) refl

    at_other : eqb b 59 ≡ false → eqb b 38 ≡ false → (ending_at (b ∷ rest) >>= end_with commands) ≡ Err (stop_at (b ∷ rest))
    at_other no_semicolon none = rw (no_semicolon, none) refl

takes_ending : (bytes rest : List ℕ) (commands : List Command) (x : Job × List ℕ) → TakesAll bytes (commands, rest)
    → (ending_at rest >>= end_with commands) ≡ Ok x → TakesJob bytes x
takes_ending bytes [] commands x t e = without_mark bytes commands x t e
takes_ending bytes (b ∷ rest) commands x t e = takes_byte b bytes rest commands x t e

pub job_taken : (bytes : List ℕ) (x : Job × List ℕ) → job_at bytes ≡ Ok x → TakesJob bytes x
unfolding job_at
job_taken bytes x e =
    let a = bind_ok (commands_at bytes) (λ read. ending_at read.1 >>= end_with read.0) x e in
    takes_ending bytes a.0.1 a.0.0 x (all_taken bytes a.0 a.1) a.2

job_some : (job : JobWriting) → IsJob job → 1 ≤ length (spelled_job job)
job_some job is = omega (arith, command_some job.first is.0.0, length-append (spelled_command job.first) (flat_map behind_bar job.more))

end_some : (end : End) → length (spelled_end end) ≡ 1
end_some semicolon = refl
end_some ampersand = refl

-- a job takes a byte at least
pub job_shorter : (bytes : List ℕ) (x : Job × List ℕ) → job_at bytes ≡ Ok x → length x.1 < length bytes
job_shorter bytes x e =
    let t = job_taken bytes x e in
    elim t.ends [
      | inl m ↦
          omega (
            arith,
            ap length m.parts,
            length-append (spelled_job t.job ++ spelled_end m.end) x.1,
            length-append (spelled_job t.job) (spelled_end m.end),
            end_some m.end,
          )
      | inr w ↦ omega (arith, ap length w.parts, ap length w.none_left, job_some t.job t.valid)
    ]

-- blanks before it change nothing

commands_same : (most : ℕ) (commands : List Command) (bytes other : List ℕ) → after_blanks bytes ≡ after_blanks other
    → commands_within most commands bytes ≡ commands_within most commands other
unfolding commands_within
commands_same zero commands bytes other same = rw (command_same bytes other same) refl
commands_same (suc most) commands bytes other same = rw (command_same bytes other same) refl

pub job_same : (bytes : List ℕ) → job_at (after_blanks bytes) ≡ job_at bytes
unfolding job_at commands_at
job_same bytes = rw (commands_same (MOST_COMMANDS - 1) [] (after_blanks bytes) bytes (twice bytes)) refl

pub job_begun : (bytes : List ℕ) (x : Job × List ℕ) → job_at bytes ≡ Ok x → length x.1 < length (after_blanks bytes)
job_begun bytes x e = job_shorter (after_blanks bytes) x (job_same bytes ∙ e)

-- what is spelled is read

-- the rest begins with the mark of a job's end, or is none
abbrev pub AtEnd : List ℕ → Type 0
AtEnd [] = ⊤
AtEnd (b ∷ rest) = (b ≡ 59) ⊎ (b ≡ 38)

end_is_mark : (rest : List ℕ) → AtEnd rest → AtMark rest
end_is_mark [] at = tt
end_is_mark (b ∷ rest) at = inr at

end_no_bar : (rest : List ℕ) → AtEnd rest → begins 124 rest ≡ false
end_no_bar [] at = refl
end_no_bar (b ∷ rest) (inl is) = rw is refl
end_no_bar (b ∷ rest) (inr is) = rw is refl

last_again : (most : ℕ) (commands : List Command) (bytes rest : List ℕ) (c : Command) → begins 124 rest ≡ false → command_at bytes ≡ Ok (c, rest)
    → commands_within most commands bytes ≡ Ok (commands ++ c ∷ [], rest)
unfolding commands_within
last_again zero commands bytes rest c none e = rw e refl
last_again (suc most) commands bytes rest c none e = rw (e, none) refl

more_again : (most : ℕ) (commands : List Command) (bytes rest : List ℕ) (c : Command) → command_at bytes ≡ Ok (c, 124 ∷ rest)
    → commands_within (suc most) commands bytes ≡ commands_within most (commands ++ c ∷ []) rest
unfolding commands_within
more_again most commands bytes rest c e = rw e refl

commands_again : (most : ℕ) (commands : List Command) (first : CommandWriting) (more : List CommandWriting) (rest : List ℕ)
    → AllByRecursion IsCommand (first ∷ more) → length more ≤ most → AtEnd rest
    → commands_within most commands ((spelled_command first ++ flat_map behind_bar more) ++ rest) ≡ Ok (commands ++ map meant_command (first ∷ more), rest)
commands_again most commands first [] rest valid few at =
    last_again most commands ((spelled_command first ++ []) ++ rest) rest (meant_command first) (end_no_bar rest at)
    (ap (λ (r : List ℕ). command_at (r ++ rest)) (append-nil (spelled_command first)) ∙ command_again first rest valid.0 (end_is_mark rest at))
commands_again zero commands first (next ∷ more) rest valid few at = absurd (omega (arith, few))
commands_again (suc most) commands first (next ∷ more) rest valid few at =
    let tail = (spelled_command next ++ flat_map behind_bar more) ++ rest in
    more_again most commands ((spelled_command first ++ flat_map behind_bar (next ∷ more)) ++ rest) tail (meant_command first)
    (ap command_at (append_assoc (spelled_command first) (flat_map behind_bar (next ∷ more)) rest) ∙ command_again first (124 ∷ tail) valid.0 (inl refl))
    ∙ commands_again most (commands ++ meant_command first ∷ []) next more rest valid.1 (omega (arith, few)) at
    ∙ ap (λ (cs : List Command). Ok (cs, rest)) (append_assoc commands (meant_command first ∷ []) (map meant_command (next ∷ more)))

all_again : (job : JobWriting) (rest : List ℕ) → IsJob job → AtEnd rest
    → commands_at (spelled_job job ++ rest) ≡ Ok (map meant_command (job.first ∷ job.more), rest)
unfolding commands_at
all_again job rest is at = commands_again 7 [] job.first job.more rest is.0 (omega (arith, is.1)) at

end_at : (end : End) (rest : List ℕ) → AtEnd (spelled_end end ++ rest)
end_at semicolon rest = inl refl
end_at ampersand rest = inr refl

ending_again : (end : End) (rest : List ℕ) → ending_at (spelled_end end ++ rest) ≡ Ok (is_background end, rest)
ending_again semicolon rest = refl
ending_again ampersand rest = refl

pub ended_job_again : (job : JobWriting) (end : End) (rest : List ℕ) → IsJob job
    → job_at ((spelled_job job ++ spelled_end end) ++ rest) ≡ Ok (meant_job (is_background end) job, rest)
unfolding job_at
ended_job_again job end rest is =
    ap job_at (append_assoc (spelled_job job) (spelled_end end) rest)
    ∙ rw (all_again job (spelled_end end ++ rest) is (end_at end rest), ending_again end rest) refl

pub last_job_again : (job : JobWriting) → IsJob job → job_at (spelled_job job) ≡ Ok (meant_job false job, [])
unfolding job_at
last_job_again job is =
    ap job_at (sym (append-nil (spelled_job job)))
    ∙ rw (all_again job [] is tt) refl
