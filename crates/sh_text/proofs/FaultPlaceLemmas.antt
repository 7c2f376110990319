-- A fault of a line stands at the first byte that no line has after those before it: what is read so far stands for the
-- bytes read so far, each byte more goes on to such a state or is a fault, and from each state a line can be completed.
use Rattle.std.proofs.Common.{◌≡◌, ◌⊎◌, ℕ, zero, suc, ◌-◌, ◌≤◌, Bool, true, false, cond, not, eqb, List, [], ◌∷◌, ◌++◌, length, drop, Some, Result, Ok, Err, refl, sym, ap, ◌∙◌, arith, inl, inr}
use Rattle.std.specs.Prelude.{is_none, codes}
use Rattle.std.proofs.lemmas.Bool.{cases_Bool, eqb-true, ne_eqb}
use Rattle.sh_text.specs.declared.fault.Stop.{Stop}
use Rattle.sh_text.specs.declared.words.Quoting.{Quoting}
use Rattle.sh_text.specs.declared.words.Quoting.TheVariants.{Bare, InQuotes, BehindBackslash}
use Rattle.sh_text.specs.declared.tree.Command.{Command}
use Rattle.sh_text.specs.declared.tree.Job.{Job}
use Rattle.sh_text.specs.declared.jobs.TheConstants.{MOST_COMMANDS}
use Rattle.sh_text.specs.Bytes.{is_blank, ends_word, after_blanks, begins}
use Rattle.sh_text.specs.Reading.{◌>>=◌, stop_at, word_from, word_at, target_at, output_at, begins_item, item_at, no_items, command_at, commands_within, commands_at, ending_at, job_at}
use Rattle.sh_text.specs.Faults.{AreBytes}
use Rattle.sh_text.proofs.StepLemmas.{alike, then_assoc, err_not_ok}
use Rattle.sh_text.proofs.BlankLemmas.{blank_skipped, other_stays, no_blank}
use Rattle.sh_text.proofs.WordGrammarLemmas.{at_end, at_quote, at_backslash, at_bare, at_close, at_inner, at_escaped}
use Rattle.sh_text.proofs.ItemGrammarLemmas.{third, at_input, at_append, at_output, at_word}
use Rattle.sh_text.proofs.ItemStepLemmas.{items_from, items_at_from, items_none, items_step, items_same}
use Rattle.sh_text.proofs.LineGrammarLemmas.{jobs_from, jobs_none, jobs_step, jobs_same}

-- what was read of a line before the command that is read
record Before : Type 0 where
  jobs : List Job
  commands : List Command
  more : ℕ

-- what a word is to its command
data Role : Type 0 where
  as_word : Role
  as_input : Role
  as_output : Bool → Role

abbrev put : Command → Role → List ℕ → Command
put c as_word word = record c { words = c.words ++ word ∷ [] }
put c as_input word = record c { input = Some word }
put c (as_output append) word = record c { output = Some word; append = append }

-- what was read so far: jobs, and perhaps commands and a command's items, and then a first mark of output, a whole mark, or
-- some bytes of a word
data State : Type 0 where
  between : List Job → State
  within : Before → Command → State
  at_mark : Before → Command → State
  at_target : Before → Command → Role → State
  in_word : Before → Command → Role → Quoting → List ℕ → State

-- what reading does behind a command's items, a command, and a job's commands

abbrev command_check : Command × List ℕ → Result (Command × List ℕ) Stop
command_check read = cond (eqb (length (read.0).words) 0) (Err (stop_at read.1)) (Ok read)

abbrev after_command : ℕ → List Command → Command × List ℕ → Result (List Command × List ℕ) Stop
after_command zero commands read = Ok (commands ++ read.0 ∷ [], read.1)
after_command (suc more) commands read =
    cond (begins 124 read.1) (commands_within more (commands ++ read.0 ∷ []) (drop 1 read.1)) (Ok (commands ++ read.0 ∷ [], read.1))

abbrev job_of : List Command → Bool → Job
job_of commands background = record { commands = commands; background = background }

abbrev after_ending : List Job → List Command → Bool × List ℕ → Result (List Job) Stop
after_ending jobs commands ending = jobs_from (jobs ++ job_of commands ending.0 ∷ []) ending.1

abbrev after_commands : List Job → List Command × List ℕ → Result (List Job) Stop
after_commands jobs read = ending_at read.1 >>= after_ending jobs read.0

abbrev after_items : Before → Command × List ℕ → Result (List Job) Stop
after_items before read = (command_check read >>= after_command before.more before.commands) >>= after_commands before.jobs

abbrev items_on : Before → Command × List ℕ → Result (List Job) Stop
items_on before longer = items_from longer.0 longer.1 >>= after_items before

abbrev behind_word : Before → Command → Role → List ℕ × List ℕ → Result (List Job) Stop
behind_word before c role word = items_on before (put c role word.0, word.1)

abbrev behind_mark : Command → List ℕ → Result (Command × List ℕ) Stop
behind_mark c bytes = cond (begins 62 bytes) (output_at c true (drop 1 bytes)) (output_at c false bytes)

-- what reading on gives
abbrev rest_of : State → List ℕ → Result (List Job) Stop
rest_of (between jobs) bytes = jobs_from jobs bytes
rest_of (within before c) bytes = items_from c bytes >>= after_items before
rest_of (at_mark before c) bytes = behind_mark c bytes >>= items_on before
rest_of (at_target before c role) bytes = target_at bytes >>= behind_word before c role
rest_of (in_word before c role quoting so_far) bytes = word_from quoting so_far bytes >>= behind_word before c role

-- at this byte reading goes on from some state, or has a fault
Moves : (List ℕ → Result (List Job) Stop) → ℕ → Type 0
Moves read b = ((s : State) × ((t : List ℕ) → read (b ∷ t) ≡ rest_of s t)) ⊎ ((t : List ℕ) → read (b ∷ t) ≡ Err (stop_at (b ∷ t)))

moves_same : (read other : List ℕ → Result (List Job) Stop) (b : ℕ) → ((t : List ℕ) → read (b ∷ t) ≡ other (b ∷ t)) → Moves other b → Moves read b
unfolding Moves
moves_same read other b same (inl goes) = inl (goes.0, λ t. same t ∙ goes.1 t)
moves_same read other b same (inr stops) = inr (λ t. same t ∙ stops t)

goes_to : (read : List ℕ → Result (List Job) Stop) (b : ℕ) (s : State) → ((t : List ℕ) → read (b ∷ t) ≡ rest_of s t) → Moves read b
unfolding Moves
goes_to read b s goes = inl (s, goes)

stops_at : (read : List ℕ → Result (List Job) Stop) (b : ℕ) → ((t : List ℕ) → read (b ∷ t) ≡ Err (stop_at (b ∷ t))) → Moves read b
unfolding Moves
stops_at read b stops = inr stops

-- inside a word

word_moves : (before : Before) (c : Command) (role : Role) (so_far : List ℕ) (b : ℕ) → ends_word b ≡ false
    → Moves (rest_of (in_word before c role Bare so_far)) b
word_moves before c role so_far b goes = elim (cases_Bool (eqb b 39)) [
  | inl quote ↦ goes_to _ b (in_word before c role InQuotes so_far) (λ t. rw (at_quote so_far t b goes quote) refl)
  | inr no_quote ↦ elim (cases_Bool (eqb b 92)) [
    | inl backslash ↦ goes_to _ b (in_word before c role BehindBackslash so_far) (λ t. rw (at_backslash so_far t b goes no_quote backslash) refl)
    | inr none ↦ goes_to _ b (in_word before c role Bare (so_far ++ b ∷ [])) (λ t. rw (at_bare so_far t b goes no_quote none) refl)
  ]
]

quoted_moves : (before : Before) (c : Command) (role : Role) (so_far : List ℕ) (b : ℕ) → Moves (rest_of (in_word before c role InQuotes so_far)) b
quoted_moves before c role so_far b = elim (cases_Bool (eqb b 39)) [
  | inl quote ↦ goes_to _ b (in_word before c role Bare so_far) (λ t. rw (at_close so_far t b quote) refl)
  | inr none ↦ goes_to _ b (in_word before c role InQuotes (so_far ++ b ∷ [])) (λ t. rw (at_inner so_far t b none) refl)
]

escaped_moves : (before : Before) (c : Command) (role : Role) (so_far : List ℕ) (b : ℕ) → Moves (rest_of (in_word before c role BehindBackslash so_far)) b
escaped_moves before c role so_far b = goes_to _ b (in_word before c role Bare (so_far ++ b ∷ [])) (λ t. rw (at_escaped so_far t b) refl)

-- a word ends where a command's items go on
word_out : (before : Before) (c : Command) (role : Role) (so_far : List ℕ) (b : ℕ) (t : List ℕ) → ends_word b ≡ true
    → rest_of (in_word before c role Bare so_far) (b ∷ t) ≡ rest_of (within before (put c role so_far)) (b ∷ t)
word_out before c role so_far b t ends = rw (at_end so_far t b ends) refl

word_done : (before : Before) (c : Command) (role : Role) (so_far : List ℕ)
    → rest_of (in_word before c role Bare so_far) [] ≡ rest_of (within before (put c role so_far)) []
unfolding word_from
word_done before c role so_far = refl

-- where a word begins

word_in : (b : ℕ) (t : List ℕ) → ends_word b ≡ false → word_at (b ∷ t) ≡ word_from Bare [] (b ∷ t)
unfolding word_at
word_in b t goes = rw goes refl

target_in : (before : Before) (c : Command) (role : Role) (b : ℕ) (t : List ℕ) → ends_word b ≡ false
    → rest_of (at_target before c role) (b ∷ t) ≡ rest_of (in_word before c role Bare []) (b ∷ t)
unfolding target_at
target_in before c role b t goes = rw (other_stays b t (no_blank b goes), word_in b t goes) refl

target_blank : (before : Before) (c : Command) (role : Role) (b : ℕ) (t : List ℕ) → is_blank b ≡ true
    → rest_of (at_target before c role) (b ∷ t) ≡ rest_of (at_target before c role) t
unfolding target_at
target_blank before c role b t is = rw (blank_skipped b t is) refl

no_target : (b : ℕ) (t : List ℕ) → is_blank b ≡ false → ends_word b ≡ true → target_at (b ∷ t) ≡ Err (stop_at (b ∷ t))
unfolding target_at word_at
no_target b t other ends = rw (other_stays b t other, ends) refl

target_moves : (before : Before) (c : Command) (role : Role) (b : ℕ) → Moves (rest_of (at_target before c role)) b
target_moves before c role b = elim (cases_Bool (ends_word b)) [
  | inr goes ↦ moves_same _ (rest_of (in_word before c role Bare [])) b (λ t. target_in before c role b t goes) (word_moves before c role [] b goes)
  | inl ends ↦ elim (cases_Bool (is_blank b)) [
    | inl is ↦ goes_to _ b (at_target before c role) (λ t. target_blank before c role b t is)
    | inr other ↦ stops_at _ b (λ t. rw (no_target b t other ends) refl)
  ]
]

output_is : (before : Before) (c : Command) (append : Bool) (t : List ℕ)
    → (output_at c append t >>= items_on before) ≡ rest_of (at_target before c (as_output append)) t
unfolding output_at
output_is before c append t = then_assoc (target_at t) (λ target. Ok (record c { output = Some target.0; append = append }, target.1)) (items_on before)

mark_in : (before : Before) (c : Command) (b : ℕ) (t : List ℕ) → eqb b 62 ≡ false
    → rest_of (at_mark before c) (b ∷ t) ≡ rest_of (at_target before c (as_output false)) (b ∷ t)
mark_in before c b t other = rw other (output_is before c false (b ∷ t))

mark_moves : (before : Before) (c : Command) (b : ℕ) → Moves (rest_of (at_mark before c)) b
mark_moves before c b = elim (cases_Bool (eqb b 62)) [
  | inl is ↦ goes_to _ b (at_target before c (as_output true)) (λ t. rw is (output_is before c true t))
  | inr other ↦ moves_same _ (rest_of (at_target before c (as_output false))) b (λ t. mark_in before c b t other) (target_moves before c (as_output false) b)
]

-- behind a command's items

commands_are : (more : ℕ) (commands : List Command) (bytes : List ℕ) → commands_within more commands bytes ≡ (command_at bytes >>= after_command more commands)
unfolding commands_within
commands_are zero commands bytes = refl
commands_are (suc more) commands bytes = refl

command_is : (bytes : List ℕ) → command_at bytes ≡ (items_from no_items bytes >>= command_check)
unfolding command_at
command_is bytes = rw (items_at_from bytes) refl

-- a command after others, in the words of the states
next_is : (jobs : List Job) (commands : List Command) (more : ℕ) (t : List ℕ)
    → (commands_within more commands t >>= after_commands jobs) ≡ rest_of (within (record { jobs = jobs; commands = commands; more = more }) no_items) t
next_is jobs commands more t =
    ap (λ (r : Result (List Command × List ℕ) Stop). r >>= after_commands jobs)
    (commands_are more commands t ∙ ap (λ (r : Result (Command × List ℕ) Stop). r >>= after_command more commands) (command_is t))
    ∙ ap (λ (r : Result (List Command × List ℕ) Stop). r >>= after_commands jobs)
    (then_assoc (items_from no_items t) command_check (after_command more commands))
    ∙ then_assoc (items_from no_items t) (λ read. command_check read >>= after_command more commands) (after_commands jobs)

checked_some : (c : Command) (rest : List ℕ) → eqb (length c.words) 0 ≡ false → command_check (c, rest) ≡ Ok (c, rest)
checked_some c rest some = rw some refl

checked_none : (c : Command) (rest : List ℕ) → eqb (length c.words) 0 ≡ true → command_check (c, rest) ≡ Err (stop_at rest)
checked_none c rest none = rw none refl

-- behind the last command of a job
ends_command : (more : ℕ) (commands : List Command) (c : Command) (rest : List ℕ) → begins 124 rest ≡ false
    → after_command more commands (c, rest) ≡ Ok (commands ++ c ∷ [], rest)
ends_command zero commands c rest none = refl
ends_command (suc more) commands c rest none = rw none refl

full_command : (commands : List Command) (c : Command) (rest : List ℕ) → after_command 0 commands (c, rest) ≡ Ok (commands ++ c ∷ [], rest)
full_command commands c rest = refl

-- at the mark behind a job's commands
ending_moves : (jobs : List Job) (commands : List Command) (b : ℕ) → Moves (λ rest. after_commands jobs (commands, rest)) b
ending_moves jobs commands b = elim (cases_Bool (eqb b 59)) [
  | inl is ↦ goes_to _ b (between (jobs ++ job_of commands false ∷ [])) (λ t. rw is refl)
  | inr no_semicolon ↦ elim (cases_Bool (eqb b 38)) [
    | inl is ↦ goes_to _ b (between (jobs ++ job_of commands true ∷ [])) (λ t. rw (no_semicolon, is) refl)
    | inr none ↦ stops_at _ b (λ t. rw (no_semicolon, none) refl)
  ]
]

after_moves : (jobs : List Job) (commands : List Command) (more : ℕ) (c : Command) (b : ℕ)
    → Moves (λ rest. after_command more commands (c, rest) >>= after_commands jobs) b
after_moves jobs commands zero c b = ending_moves jobs (commands ++ c ∷ []) b
after_moves jobs commands (suc more) c b = elim (cases_Bool (eqb b 124)) [
  | inl bar ↦
      goes_to _ b (within (record { jobs = jobs; commands = commands ++ c ∷ []; more = more }) no_items)
      (λ t. rw bar (next_is jobs (commands ++ c ∷ []) more t))
  | inr none ↦ moves_same _ (λ rest. after_commands jobs (commands ++ c ∷ [], rest)) b (λ t. rw none refl) (ending_moves jobs (commands ++ c ∷ []) b)
]

items_end : (before : Before) (c : Command) (b : ℕ) → Moves (λ rest. after_items before (c, rest)) b
items_end before c b = elim (cases_Bool (eqb (length c.words) 0)) [
  | inl none ↦ stops_at _ b (λ t. rw (checked_none c (b ∷ t) none) refl)
  | inr some ↦
      moves_same _ (λ rest. after_command before.more before.commands (c, rest) >>= after_commands before.jobs) b (λ t. rw (checked_some c (b ∷ t) some) refl)
      (after_moves before.jobs before.commands before.more c b)
]

-- between a command's items

within_blank : (before : Before) (c : Command) (b : ℕ) (t : List ℕ) → is_blank b ≡ true → rest_of (within before c) (b ∷ t) ≡ rest_of (within before c) t
within_blank before c b t is = rw (items_same c (b ∷ t) t (blank_skipped b t is)) refl

within_none : (before : Before) (c : Command) (b : ℕ) (t : List ℕ) → is_blank b ≡ false → begins_item c (b ∷ t) ≡ false
    → rest_of (within before c) (b ∷ t) ≡ after_items before (c, b ∷ t)
within_none before c b t other none =
    let stays = other_stays b t other in
    let read : items_from c (b ∷ t) ≡ Ok (c, b ∷ t) = items_none c (b ∷ t) (ap (begins_item c) stays ∙ none) ∙ ap (λ (rest : List ℕ). Ok (c, rest)) stays in
    rw read refl

within_item : (before : Before) (c : Command) (b : ℕ) (t : List ℕ) → is_blank b ≡ false → begins_item c (b ∷ t) ≡ true
    → rest_of (within before c) (b ∷ t) ≡ (item_at c (b ∷ t) >>= items_on before)
within_item before c b t other begun =
    let stays = other_stays b t other in
    let read : items_from c (b ∷ t) ≡ (item_at c (b ∷ t) >>= λ longer. items_from longer.0 longer.1) =
    items_step c (b ∷ t) (ap (begins_item c) stays ∙ begun) ∙ ap (λ (rest : List ℕ). item_at c rest >>= λ longer. items_from longer.0 longer.1) stays in
    ap (λ (r : Result (Command × List ℕ) Stop). r >>= after_items before) read
    ∙ then_assoc (item_at c (b ∷ t)) (λ longer. items_from longer.0 longer.1) (after_items before)

within_word : (before : Before) (c : Command) (b : ℕ) (t : List ℕ) → ends_word b ≡ false → eqb b 60 ≡ false → eqb b 62 ≡ false
    → rest_of (within before c) (b ∷ t) ≡ rest_of (in_word before c as_word Bare []) (b ∷ t)
within_word before c b t goes no_input no_output =
    within_item before c b t (no_blank b goes)
    (third (eqb b 60) (eqb b 62) (is_none c.input) (is_none c.output) (not (ends_word b)) no_input no_output ∙ ap not goes)
    ∙ rw (at_word c t b no_input no_output, word_in b t goes)
    (then_assoc (word_from Bare [] (b ∷ t)) (λ word. Ok (record c { words = c.words ++ word.0 ∷ [] }, word.1)) (items_on before))

within_input : (before : Before) (c : Command) (b : ℕ) (t : List ℕ) → eqb b 60 ≡ true → is_none c.input ≡ true
    → rest_of (within before c) (b ∷ t) ≡ rest_of (at_target before c as_input) t
within_input before c b t is can =
    within_item before c b t (ap is_blank (eqb-true b 60 is)) (rw is can)
    ∙ rw (at_input c t b is) (then_assoc (target_at t) (λ target. Ok (record c { input = Some target.0 }, target.1)) (items_on before))

output_item : (c : Command) (b : ℕ) (t : List ℕ) → eqb b 60 ≡ false → eqb b 62 ≡ true → item_at c (b ∷ t) ≡ behind_mark c t
output_item c b t no_input is = elim (cases_Bool (begins 62 t)) [
  | inl twice ↦ rw (at_append c t b no_input is twice, twice) refl
  | inr once ↦ rw (at_output c t b no_input is once, once) refl
]

within_output : (before : Before) (c : Command) (b : ℕ) (t : List ℕ) → eqb b 60 ≡ false → eqb b 62 ≡ true → is_none c.output ≡ true
    → rest_of (within before c) (b ∷ t) ≡ rest_of (at_mark before c) t
within_output before c b t no_input is can =
    within_item before c b t (ap is_blank (eqb-true b 62 is)) (rw (no_input, is) can)
    ∙ ap (λ (r : Result (Command × List ℕ) Stop). r >>= items_on before) (output_item c b t no_input is)

within_moves : (before : Before) (c : Command) (b : ℕ) → Moves (rest_of (within before c)) b
within_moves before c b = elim (cases_Bool (is_blank b)) [
  | inl blank ↦ goes_to _ b (within before c) (λ t. within_blank before c b t blank)
  | inr other ↦ elim (cases_Bool (eqb b 60)) [
    | inl is ↦ elim (cases_Bool (is_none c.input)) [
      | inl can ↦ goes_to _ b (at_target before c as_input) (λ t. within_input before c b t is can)
      | inr second ↦ moves_same _ (λ rest. after_items before (c, rest)) b (λ t. within_none before c b t other (rw is second)) (items_end before c b)
    ]
    | inr no_input ↦ elim (cases_Bool (eqb b 62)) [
      | inl is ↦ elim (cases_Bool (is_none c.output)) [
        | inl can ↦ goes_to _ b (at_mark before c) (λ t. within_output before c b t no_input is can)
        | inr second ↦
            moves_same _ (λ rest. after_items before (c, rest)) b (λ t. within_none before c b t other (rw (no_input, is) second)) (items_end before c b)
      ]
      | inr no_output ↦ elim (cases_Bool (ends_word b)) [
        | inl ends ↦
            moves_same _ (λ rest. after_items before (c, rest)) b
            (λ t. within_none before c b t other
            (third (eqb b 60) (eqb b 62) (is_none c.input) (is_none c.output) (not (ends_word b)) no_input no_output ∙ ap not ends))
            (items_end before c b)
        | inr goes ↦
            moves_same _ (rest_of (in_word before c as_word Bare [])) b (λ t. within_word before c b t goes no_input no_output)
            (word_moves before c as_word [] b goes)
      ]
    ]
  ]
]

-- between jobs

abbrev first_of : List Job → Before
first_of jobs = record { jobs = jobs; commands = []; more = MOST_COMMANDS - 1 }

abbrev end_with : List Command → Bool × List ℕ → Result (Job × List ℕ) Stop
end_with commands ending = Ok (job_of commands ending.0, ending.1)

job_is : (jobs : List Job) (bytes : List ℕ) → (job_at bytes >>= λ job. jobs_from (jobs ++ job.0 ∷ []) job.1) ≡ rest_of (within (first_of jobs) no_items) bytes
unfolding job_at commands_at
job_is jobs bytes =
    then_assoc (commands_within (MOST_COMMANDS - 1) [] bytes) (λ read. ending_at read.1 >>= end_with read.0) (λ job. jobs_from (jobs ++ job.0 ∷ []) job.1)
    ∙ alike (commands_within (MOST_COMMANDS - 1) [] bytes) (λ read. (ending_at read.1 >>= end_with read.0) >>= λ job. jobs_from (jobs ++ job.0 ∷ []) job.1)
    (after_commands jobs) (λ read e. then_assoc (ending_at read.1) (end_with read.0) (λ job. jobs_from (jobs ++ job.0 ∷ []) job.1))
    ∙ next_is jobs [] (MOST_COMMANDS - 1) bytes

between_job : (jobs : List Job) (b : ℕ) (t : List ℕ) → is_blank b ≡ false → rest_of (between jobs) (b ∷ t) ≡ rest_of (within (first_of jobs) no_items) (b ∷ t)
between_job jobs b t other =
    let some : 1 ≤ length (after_blanks (b ∷ t)) = rw (other_stays b t other) (omega arith) in
    jobs_step jobs (b ∷ t) some ∙ job_is jobs (b ∷ t)

between_moves : (jobs : List Job) (b : ℕ) → Moves (rest_of (between jobs)) b
between_moves jobs b = elim (cases_Bool (is_blank b)) [
  | inl blank ↦ goes_to _ b (between jobs) (λ t. jobs_same jobs (b ∷ t) t (blank_skipped b t blank))
  | inr other ↦ moves_same _ (rest_of (within (first_of jobs) no_items)) b (λ t. between_job jobs b t other) (within_moves (first_of jobs) no_items b)
]

moves : (s : State) (b : ℕ) → Moves (rest_of s) b
moves (between jobs) b = between_moves jobs b
moves (within before c) b = within_moves before c b
moves (at_mark before c) b = mark_moves before c b
moves (at_target before c role) b = target_moves before c role b
moves (in_word before c role InQuotes so_far) b = quoted_moves before c role so_far b
moves (in_word before c role BehindBackslash so_far) b = escaped_moves before c role so_far b
moves (in_word before c role Bare so_far) b = elim (cases_Bool (ends_word b)) [
  | inl ends ↦
      moves_same _ (rest_of (within before (put c role so_far))) b (λ t. word_out before c role so_far b t ends) (within_moves before (put c role so_far) b)
  | inr goes ↦ word_moves before c role so_far b goes
]

-- at the end of the bytes

Ends : Result (List Job) Stop → Type 0
Ends read = ((jobs : List Job) × (read ≡ Ok jobs)) ⊎ (read ≡ Err (stop_at []))

within_end : (before : Before) (c : Command) → rest_of (within before c) [] ≡ after_items before (c, [])
within_end before c = rw (items_none c [] refl) refl

-- a job's commands at the end of the bytes
job_done : (before : Before) (c : Command) → eqb (length c.words) 0 ≡ false
    → rest_of (within before c) [] ≡ Ok (before.jobs ++ job_of (before.commands ++ c ∷ []) false ∷ [])
job_done before c some =
    within_end before c
    ∙ rw (checked_some c [] some, ends_command before.more before.commands c [] refl)
    (jobs_none (before.jobs ++ job_of (before.commands ++ c ∷ []) false ∷ []) [] refl)

within_ends : (before : Before) (c : Command) → Ends (rest_of (within before c) [])
unfolding Ends
within_ends before c = elim (cases_Bool (eqb (length c.words) 0)) [
  | inl none ↦ inr (within_end before c ∙ rw (checked_none c [] none) refl)
  | inr some ↦ inl (before.jobs ++ job_of (before.commands ++ c ∷ []) false ∷ [], job_done before c some)
]

no_target_left : (before : Before) (c : Command) (role : Role) → rest_of (at_target before c role) [] ≡ Err (stop_at [])
unfolding target_at word_at
no_target_left before c role = refl

ends : (s : State) → Ends (rest_of s [])
unfolding Ends word_from
ends (between jobs) = inl (jobs, jobs_none jobs [] refl)
ends (within before c) = within_ends before c
ends (at_mark before c) = inr (output_is before c false [] ∙ no_target_left before c (as_output false))
ends (at_target before c role) = inr (no_target_left before c role)
ends (in_word before c role Bare so_far) = within_ends before (put c role so_far)
ends (in_word before c role InQuotes so_far) = inr refl
ends (in_word before c role BehindBackslash so_far) = inr refl

-- from each state a line can be completed

Completes : State → List ℕ → Type 0
Completes s more = (jobs : List Job) × (rest_of s more ≡ Ok jobs)

push_some : (words : List (List ℕ)) (word : List ℕ) → eqb (length (words ++ word ∷ [])) 0 ≡ false
push_some [] word = refl
push_some (w ∷ words) word = ne_eqb (suc (length (words ++ word ∷ []))) 0 (omega arith)

-- by a word
by_word : (before : Before) (c : Command) → Completes (within before c) (codes "a")
unfolding Completes
by_word before c =
    let with = put c as_word (codes "a") in (
      before.jobs ++ job_of (before.commands ++ with ∷ []) false ∷ [],
      within_word before c 97 [] refl refl refl
          ∙ rw (at_bare [] [] 97 refl refl refl) (word_done before c as_word (codes "a") ∙ job_done before with (push_some c.words (codes "a"))),
    )

-- by a blank and a word, where a word can end
by_blank : (before : Before) (c : Command) (role : Role) (so_far : List ℕ) → Completes (in_word before c role Bare so_far) (codes " a")
unfolding Completes
by_blank before c role so_far =
    let w = by_word before (put c role so_far) in
    (w.0, word_out before c role so_far 32 (codes "a") refl ∙ within_blank before (put c role so_far) 32 (codes "a") refl ∙ w.1)

by_target : (before : Before) (c : Command) (role : Role) → Completes (at_target before c role) (codes "a a")
unfolding Completes
by_target before c role =
    let w = by_blank before c role (codes "a") in
    (w.0, target_in before c role 97 (codes " a") refl ∙ rw (at_bare [] (codes " a") 97 refl refl refl) w.1)

one_byte : AreBytes (codes "a")
one_byte = (omega arith, tt)

two_bytes : AreBytes (codes " a")
two_bytes = (omega arith, one_byte)

three_bytes : AreBytes (codes "a a")
three_bytes = (omega arith, two_bytes)

close_bytes : AreBytes (codes "' a")
close_bytes = (omega arith, two_bytes)

completes : (s : State) → (more : List ℕ) × AreBytes more × Completes s more
unfolding Completes
completes (between jobs) = ([], tt, (jobs, jobs_none jobs [] refl))
completes (within before c) = (codes "a", one_byte, by_word before c)
completes (at_mark before c) = let w = by_target before c (as_output false) in (codes "a a", three_bytes, (w.0, mark_in before c 97 (codes " a") refl ∙ w.1))
completes (at_target before c role) = (codes "a a", three_bytes, by_target before c role)
completes (in_word before c role Bare so_far) = (codes " a", two_bytes, by_blank before c role so_far)
completes (in_word before c role InQuotes so_far) =
    let w = by_blank before c role so_far in (codes "' a", close_bytes, (w.0, rw (at_close so_far (codes " a") 39 refl) w.1))
completes (in_word before c role BehindBackslash so_far) =
    let w = by_blank before c role (so_far ++ codes "a") in (codes "a a", three_bytes, (w.0, rw (at_escaped so_far (codes " a") 97) w.1))

-- a fault: after the front a line can be completed, and after the front and the byte at the fault none

abbrev pub SameFirst : List ℕ → List ℕ → Type 0
SameFirst [] ys = ⊥
SameFirst (x ∷ xs) [] = ⊥
SameFirst (x ∷ xs) (y ∷ ys) = x ≡ y

pub record FaultPlace (read : List ℕ → Result (List Job) Stop) (bytes : List ℕ) (stop : Stop) : Type 0 where
  pub front : List ℕ
  pub rest : List ℕ
  pub parts : bytes ≡ front ++ rest
  pub place : stop ≡ stop_at rest
  pub alive : (more : List ℕ) × AreBytes more × (jobs : List Job) × (read (front ++ more) ≡ Ok jobs)
  pub dead : (other : List ℕ) → SameFirst rest other → (l : Stop) × (read (front ++ other) ≡ Err l)

abbrev err_of : Stop → Result (List Job) Stop
err_of s = Err s

err_is : (s stop : Stop) → err_of s ≡ err_of stop → s ≡ stop
err_is s stop e = cc

fails_end : (s : State) (stop : Stop) → rest_of s [] ≡ Err stop → FaultPlace (rest_of s) [] stop
unfolding Completes Ends
fails_end s stop e = elim (ends s) [
  | inl ok ↦ err_not_ok stop ok.0 (sym e ∙ ok.1)
  | inr fault ↦
      let w = completes s in
      record {
        front = [];
        rest = [];
        parts = refl;
        place = err_is stop (stop_at []) (sym e ∙ fault);
        alive = (w.0, w.1, w.2.0, w.2.1);
        dead = λ other same. absurd same;
      }
]

fails_there : (s : State) (b : ℕ) (t : List ℕ) (stop : Stop) → ((t : List ℕ) → rest_of s (b ∷ t) ≡ Err (stop_at (b ∷ t))) → rest_of s (b ∷ t) ≡ Err stop
    → FaultPlace (rest_of s) (b ∷ t) stop
unfolding Completes
fails_there s b t stop stops e =
    let w = completes s in
    record { front = []; rest = b ∷ t; parts = refl; place = err_is stop (stop_at (b ∷ t)) (sym e ∙ stops t); alive = (w.0, w.1, w.2.0, w.2.1); dead = dead }
  where
    dead : (other : List ℕ) → SameFirst (b ∷ t) other → (l : Stop) × (rest_of s other ≡ Err l)
    dead [] same = absurd same
    dead (c ∷ other) same = rw (← same) (stop_at (b ∷ other), stops other)

fails_later : (s next : State) (b : ℕ) (t : List ℕ) (stop : Stop) → ((t : List ℕ) → rest_of s (b ∷ t) ≡ rest_of next t) → FaultPlace (rest_of next) t stop
    → FaultPlace (rest_of s) (b ∷ t) stop
fails_later s next b t stop goes f = record {
  front = b ∷ f.front;
  rest = f.rest;
  parts = ap (λ (r : List ℕ). b ∷ r) f.parts;
  place = f.place;
  alive = (f.alive.0, f.alive.1, f.alive.2, goes (f.front ++ f.alive.0) ∙ f.alive.3);
  dead = λ other same. let d = f.dead other same in (d.0, goes (f.front ++ other) ∙ d.1);
}

fails : (bytes : List ℕ) (s : State) (stop : Stop) → rest_of s bytes ≡ Err stop → FaultPlace (rest_of s) bytes stop
unfolding Moves
fails [] s stop e = fails_end s stop e
fails (b ∷ t) s stop e = elim (moves s b) [
  | inl goes ↦ fails_later s goes.0 b t stop goes.1 (fails t goes.0 stop (sym (goes.1 t) ∙ e))
  | inr stops ↦ fails_there s b t stop stops e
]

pub line_fails : (text : List ℕ) (stop : Stop) → jobs_from [] text ≡ Err stop → FaultPlace (jobs_from []) text stop
line_fails text stop e = fails text (between []) stop e
