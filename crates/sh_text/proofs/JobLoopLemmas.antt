-- Commands and jobs, one after the other.
use Rattle.std.proofs.Common.{◌≡◌, ℕ, zero, suc, ◌-◌, ◌≤◌, ◌<◌, ◌≢◌, Bool, eqb, true, false, cond, List, [], ◌∷◌, ◌++◌, length, drop, length-drop, Some, None, Result, Ok, Err, refl, sym, ◌∙◌, arith}
use Rattle.std.proofs.lemmas.Bool.{eqb-true}
use Rattle.sh_text.specs.declared.fault.Stop.{Stop}
use Rattle.sh_text.specs.declared.fault.Halt.{Halt}
use Rattle.sh_text.specs.declared.fault.Halt.TheVariants as halt
use Rattle.sh_text.specs.declared.tree.Command.{Command}
use Rattle.sh_text.specs.declared.tree.Job.{Job}
use Rattle.sh_text.specs.Bytes.{after_blanks, begins}
use Rattle.sh_text.specs.Reading.{◌>>=◌, Gives, command_at, commands_within, job_at, jobs_within, jobs_at}

-- the steps of the loop over commands

fault_in : (more : ℕ) (commands : List Command) (rest : List ℕ) (s : Stop) → command_at rest ≡ Err s → commands_within more commands rest ≡ Err s
unfolding commands_within
fault_in zero commands rest s e = rw e refl
fault_in (suc more) commands rest s e = rw e refl

pub commands_fault : {X Y : Type 0} (view : X → Command × List ℕ) (view2 : Y → List Command × List ℕ) (whole : Result (List Command × List ℕ) Stop) (more : ℕ)
    (commands : List Command) (rest : List ℕ) (s : Halt)
    → commands_within more commands rest ≡ whole → Gives view (Err s) (command_at rest) → Gives view2 (Err s) whole
commands_fault view view2 whole more commands rest (halt.Text s) left e = sym left ∙ fault_in more commands rest s e
commands_fault view view2 whole more commands rest halt.OutOfMemory left e = tt

none_begins : (b : Bool) (x : List ℕ) → None ≡ cond b (Some x) None → b ≡ false
none_begins true x e = absurd cc
none_begins false x e = refl

some_begins : (b : Bool) (x y : List ℕ) → Some y ≡ cond b (Some x) None → (b ≡ true) × (y ≡ x)
some_begins true x y e = (refl, cc)
some_begins false x y e = absurd cc

last_in : (more : ℕ) (commands : List Command) (command : Command) (rest after : List ℕ) → command_at rest ≡ Ok (command, after) → begins 124 after ≡ false
    → commands_within more commands rest ≡ Ok (commands ++ command ∷ [], after)
unfolding commands_within
last_in zero commands command rest after e none = rw e refl
last_in (suc more) commands command rest after e none = rw (e, none) refl

pub commands_last : (more : ℕ) (commands : List Command) (command : Command) (rest after : List ℕ) → command_at rest ≡ Ok (command, after)
    → None ≡ cond (begins 124 after) (Some (drop 1 after)) None → commands_within more commands rest ≡ Ok (commands ++ command ∷ [], after)
commands_last more commands command rest after e none = last_in more commands command rest after e (none_begins (begins 124 after) (drop 1 after) none)

full_in : (commands : List Command) (command : Command) (rest after : List ℕ) → command_at rest ≡ Ok (command, after)
    → commands_within 0 commands rest ≡ Ok (commands ++ command ∷ [], after)
unfolding commands_within
full_in commands command rest after e = rw e refl

pub commands_full : (more : ℕ) (commands : List Command) (command : Command) (rest after : List ℕ) → command_at rest ≡ Ok (command, after) → more ≡ 0
    → commands_within more commands rest ≡ Ok (commands ++ command ∷ [], after)
commands_full more commands command rest after e none = rw none (full_in commands command rest after e)

within_more : (more : ℕ) (commands : List Command) (command : Command) (rest after : List ℕ) → command_at rest ≡ Ok (command, after) → begins 124 after ≡ true
    → commands_within (suc more) commands rest ≡ commands_within more (commands ++ command ∷ []) (drop 1 after)
unfolding commands_within
within_more more commands command rest after e more_come = rw (e, more_come) refl

pub commands_more : (more : ℕ) (commands : List Command) (command : Command) (rest after next : List ℕ) → command_at rest ≡ Ok (command, after)
    → Some next ≡ cond (begins 124 after) (Some (drop 1 after)) None → more ≢ 0
    → commands_within more commands rest ≡ commands_within (more - 1) (commands ++ command ∷ []) next
commands_more zero commands command rest after next e come some = absurd (some refl)
commands_more (suc more) commands command rest after next e come some =
    let one_less : suc more - 1 ≡ more = omega arith in
    let b = some_begins (begins 124 after) (drop 1 after) next come in
    rw (one_less, b.1) (within_more more commands command rest after e b.0)

pub next_shorter : (after next : List ℕ) → Some next ≡ cond (begins 124 after) (Some (drop 1 after)) None → length next ≤ length after
next_shorter after next come =
    let b = some_begins (begins 124 after) (drop 1 after) next come in
    rw b.1 (omega (arith, length-drop 1 after))

-- the jobs so far and the bytes that are left give what the whole gives
pub record JobsLeft (whole : Result (List Job) Stop) (jobs : List Job) (rest : List ℕ) : Type 0 where
  pub bound : ℕ
  pub enough : length rest ≤ bound
  pub value : jobs_within bound jobs rest ≡ whole

pub jobs_begin : (bytes : List ℕ) → JobsLeft (jobs_at bytes) [] (after_blanks bytes)
unfolding jobs_at
jobs_begin bytes = record { bound = length (after_blanks bytes); enough = omega arith; value = refl }

within_end : (k : ℕ) (jobs : List Job) → jobs_within k jobs [] ≡ Ok jobs
unfolding jobs_within
within_end zero jobs = refl
within_end (suc k) jobs = refl

within_step : (k : ℕ) (jobs : List Job) (rest : List ℕ) → 0 < length rest
    → jobs_within (suc k) jobs rest ≡ (job_at rest >>= λ job. jobs_within k (jobs ++ job.0 ∷ []) (after_blanks job.1))
unfolding jobs_within
within_step k jobs [] some = absurd (omega (arith, some))
within_step k jobs (b ∷ rest) some = refl

-- the steps of the loop over jobs

end_of : (whole : Result (List Job) Stop) (k : ℕ) (jobs : List Job) (rest : List ℕ) → jobs_within k jobs rest ≡ whole → length rest ≤ 0 → whole ≡ Ok jobs
end_of whole k jobs [] value none = sym value ∙ within_end k jobs
end_of whole k jobs (b ∷ rest) value none = absurd (omega (arith, none))

pub jobs_end : (whole : Result (List Job) Stop) (jobs : List Job) (rest : List ℕ) → JobsLeft whole jobs rest → eqb (length rest) 0 ≡ true → whole ≡ Ok jobs
jobs_end whole jobs rest left none = end_of whole left.bound jobs rest left.value (omega (arith, eqb-true (length rest) 0 none))

fault_within : (k : ℕ) (jobs : List Job) (rest : List ℕ) (s : Stop) → length rest ≤ k → 0 < length rest → job_at rest ≡ Err s → jobs_within k jobs rest ≡ Err s
fault_within zero jobs rest s enough some e = absurd (omega (arith, enough, some))
fault_within (suc k) jobs rest s enough some e = within_step k jobs rest some ∙ rw e refl

pub some_left : (rest : List ℕ) → eqb (length rest) 0 ≡ false → 0 < length rest
some_left [] e = absurd cc
some_left (b ∷ rest) e = omega arith

pub jobs_fault : {X Y : Type 0} (view : X → Job × List ℕ) (view2 : Y → List Job) (whole : Result (List Job) Stop) (jobs : List Job) (rest : List ℕ) (s : Halt)
    → JobsLeft whole jobs rest → eqb (length rest) 0 ≡ false → Gives view (Err s) (job_at rest) → Gives view2 (Err s) whole
jobs_fault view view2 whole jobs rest (halt.Text s) left some e = sym left.value ∙ fault_within left.bound jobs rest s left.enough (some_left rest some) e
jobs_fault view view2 whole jobs rest halt.OutOfMemory left some e = tt

more_within : (whole : Result (List Job) Stop) (k : ℕ) (jobs : List Job) (job : Job) (rest after : List ℕ) → length rest ≤ k → jobs_within k jobs rest ≡ whole
    → job_at rest ≡ Ok (job, after) → length (after_blanks after) < length rest → JobsLeft whole (jobs ++ job ∷ []) (after_blanks after)
more_within whole zero jobs job rest after enough value e less = absurd (omega (arith, enough, less))
more_within whole (suc k) jobs job rest after enough value e less =
    let step : jobs_within (suc k) jobs rest ≡ jobs_within k (jobs ++ job ∷ []) (after_blanks after) =
    within_step k jobs rest (omega (arith, less)) ∙ rw e refl in
    record { bound = k; enough = omega (arith, enough, less); value = sym step ∙ value }

pub jobs_more : (whole : Result (List Job) Stop) (jobs : List Job) (job : Job) (rest after next : List ℕ) → JobsLeft whole jobs rest
    → job_at rest ≡ Ok (job, after) → next ≡ after_blanks after → length next < length rest → JobsLeft whole (jobs ++ job ∷ []) next
jobs_more whole jobs job rest after next left e is_next less =
    let less2 : length (after_blanks after) < length rest = rw (← is_next) less in
    rw is_next (more_within whole left.bound jobs job rest after left.enough left.value e less2)
