-- Lines read from left to right: what they mean, and the bytes that are left, or how many bytes are left from the first
-- one on that no line has there.
use Rattle.std.specs.Prelude.{◌≡◌, ℕ, zero, suc, ◌-◌, Bool, true, false, not, ◌&&◌, ◌==◌, List, [], ◌∷◌, ◌++◌, length, drop, Some, None, is_none, Result, Ok, Err, if◌then◌else◌, ⊤}
use Rattle.std.specs.Str.{byte}
use Rattle.sh_text.specs.declared.fault.Stop.{Stop}
use Rattle.sh_text.specs.declared.fault.Halt.{Halt}
use Rattle.sh_text.specs.declared.fault.Halt.TheVariants as halt
use Rattle.sh_text.specs.declared.fault.ShFault.{ShFault}
use Rattle.sh_text.specs.declared.fault.ShFault.TheVariants as fault
use Rattle.sh_text.specs.declared.tree.Command.{Command}
use Rattle.sh_text.specs.declared.tree.Job.{Job}
use Rattle.sh_text.specs.declared.tree.Line.{Line}
use Rattle.sh_text.specs.declared.words.Quoting.{Quoting}
use Rattle.sh_text.specs.declared.words.Quoting.TheVariants.{Bare, InQuotes, BehindBackslash}
use Rattle.sh_text.specs.declared.jobs.TheConstants.{MOST_COMMANDS}
use Rattle.sh_text.specs.Bytes.{ends_word, after_blanks, begins}

-- a step, and the next one where it did not stop
infixl 10 ◌>>=◌
abbrev pub ◌>>=◌ : {A B : Type 0} → Result A Stop → (A → Result B Stop) → Result B Stop
(Ok x) >>= f = f x
(Err stop) >>= f = Err stop

-- what a function returned, seen by view, is what reading gives, but where memory ran out
abbrev pub Gives : {X Y : Type 0} → (X → Y) → Result X Halt → Result Y Stop → Type 0
Gives view (Ok x) read = read ≡ Ok (view x)
Gives view (Err (halt.Text stop)) read = read ≡ Err stop
Gives view (Err halt.OutOfMemory) read = ⊤

-- a fault at the first of these bytes, or at the end where there is none
abbrev pub stop_at : List ℕ → Stop
stop_at bytes = record { left = length bytes }

-- how many bytes are left from the fault on, and none where memory ran out
abbrev pub left_of : Halt → ℕ
left_of (halt.Text stop) = stop.left
left_of halt.OutOfMemory = 0

-- whether the byte ends the word
abbrev pub is_end : Quoting → ℕ → Bool
is_end Bare b = ends_word b
is_end InQuotes b = false
is_end BehindBackslash b = false

-- whether the byte is one of the word's own, and no quote
abbrev pub is_kept : Quoting → ℕ → Bool
is_kept Bare b = not (b == byte "'") && not (b == byte "\\")
is_kept InQuotes b = not (b == byte "'")
is_kept BehindBackslash b = true

-- how the byte after this one is quoted
abbrev pub quoting_after : Quoting → ℕ → Quoting
quoting_after Bare b = if b == byte "'" then InQuotes else (if b == byte "\\" then BehindBackslash else Bare)
quoting_after InQuotes b = if b == byte "'" then Bare else InQuotes
quoting_after BehindBackslash b = Bare

-- a word at the end of the text, where it does not end within quotes
abbrev pub word_end : Quoting → List ℕ → Result (List ℕ × List ℕ) Stop
word_end Bare word = Ok (word, [])
word_end InQuotes word = Err (stop_at [])
word_end BehindBackslash word = Err (stop_at [])

-- a word whose bytes so far are these
unfoldable pub word_from : Quoting → List ℕ → List ℕ → Result (List ℕ × List ℕ) Stop
word_from quoting word [] = word_end quoting word
word_from quoting word (b ∷ rest) =
    if is_end quoting b
    then Ok (word, b ∷ rest)
    else word_from (quoting_after quoting b) (if is_kept quoting b then word ++ b ∷ [] else word) rest

-- whether a word comes next
abbrev pub begins_word : List ℕ → Bool
begins_word [] = false
begins_word (b ∷ rest) = not (ends_word b)

-- a word
unfoldable pub word_at : List ℕ → Result (List ℕ × List ℕ) Stop
word_at bytes = if begins_word bytes then word_from Bare [] bytes else Err (stop_at bytes)

-- the word behind a mark of redirection, with blanks before it or none
unfoldable pub target_at : List ℕ → Result (List ℕ × List ℕ) Stop
target_at bytes = word_at (after_blanks bytes)

-- whether a word, or an input or output that the command has not yet, comes next
abbrev pub begins_item : Command → List ℕ → Bool
begins_item command [] = false
begins_item command (b ∷ rest) =
    if b == byte "<" then is_none command.input
    else (if b == byte ">" then is_none command.output
    else not (ends_word b))

-- an output, which is appended to or not
unfoldable pub output_at : Command → Bool → List ℕ → Result (Command × List ℕ) Stop
output_at command append bytes = do
  target ← target_at bytes
  Ok (record command { output = Some target.0; append = append }, target.1)

-- one word, input or output more
unfoldable pub item_at : Command → List ℕ → Result (Command × List ℕ) Stop
item_at command bytes =
    if begins (byte "<") bytes then (do
      target ← target_at (drop 1 bytes)
      Ok (record command { input = Some target.0 }, target.1))
    else (if begins (byte ">") bytes then
    (if begins (byte ">") (drop 1 bytes)
    then output_at command true (drop 2 bytes)
    else output_at command false (drop 1 bytes))
    else (do
      word ← word_at bytes
      Ok (record command { words = command.words ++ word.0 ∷ [] }, word.1)))

-- words and redirections as far as they go, each with the blanks after it; the first argument bounds how many there are
unfoldable pub items_within : ℕ → Command → List ℕ → Result (Command × List ℕ) Stop
items_within zero command bytes = Ok (command, bytes)
items_within (suc k) command bytes =
    if begins_item command bytes
    then (do
      longer ← item_at command bytes
      items_within k longer.0 (after_blanks longer.1))
    else Ok (command, bytes)

-- a command of which nothing was read
abbrev pub no_items : Command
no_items = record { words = []; input = None; output = None; append = false }

-- there are no more of them than bytes
unfoldable pub items_at : List ℕ → Result (Command × List ℕ) Stop
items_at bytes = items_within (length (after_blanks bytes)) no_items (after_blanks bytes)

-- a command, which has at least one word
unfoldable pub command_at : List ℕ → Result (Command × List ℕ) Stop
command_at bytes = do
  read ← items_at bytes
  (if length (read.0).words == 0 then Err (stop_at read.1) else Ok read)

-- commands joined by bars: one, and at most so many more
unfoldable pub commands_within : ℕ → List Command → List ℕ → Result (List Command × List ℕ) Stop
commands_within zero commands bytes = do
  read ← command_at bytes
  Ok (commands ++ read.0 ∷ [], read.1)
commands_within (suc more) commands bytes = do
  read ← command_at bytes
  (if begins (byte "|") read.1
      then commands_within more (commands ++ read.0 ∷ []) (drop 1 read.1)
      else Ok (commands ++ read.0 ∷ [], read.1))

-- the commands of a job
unfoldable pub commands_at : List ℕ → Result (List Command × List ℕ) Stop
commands_at bytes = commands_within (MOST_COMMANDS - 1) [] bytes

-- the end of a job, and whether it sends the job to the background
abbrev pub ending_at : List ℕ → Result (Bool × List ℕ) Stop
ending_at [] = Ok (false, [])
ending_at (b ∷ rest) =
    if b == byte ";" then Ok (false, rest)
    else (if b == byte "&" then Ok (true, rest)
    else Err (stop_at (b ∷ rest)))

-- a job with its end
unfoldable pub job_at : List ℕ → Result (Job × List ℕ) Stop
job_at bytes = do
  read ← commands_at bytes
  ending ← ending_at read.1
  Ok (record { commands = read.0; background = ending.0 }, ending.1)

-- jobs up to the end, each with the blanks after it; the first argument bounds how many there are
unfoldable pub jobs_within : ℕ → List Job → List ℕ → Result (List Job) Stop
jobs_within zero jobs bytes = Ok jobs
jobs_within (suc k) jobs [] = Ok jobs
jobs_within (suc k) jobs (b ∷ rest) = do
  job ← job_at (b ∷ rest)
  jobs_within k (jobs ++ job.0 ∷ []) (after_blanks job.1)

-- there are no more of them than bytes
unfoldable pub jobs_at : List ℕ → Result (List Job) Stop
jobs_at bytes = jobs_within (length (after_blanks bytes)) [] (after_blanks bytes)

-- the fault's place, counted from the text's start
abbrev pub with_place : List ℕ → Result (List Job) Stop → Result Line ℕ
with_place text (Ok jobs) = Ok (record { jobs = jobs })
with_place text (Err stop) = Err (length text - stop.left)

-- the tree of a line, or the place of its first fault
unfoldable pub line_of : List ℕ → Result Line ℕ
line_of text = with_place text (jobs_at text)

-- what was returned is that, but where memory ran out
abbrev pub Reads : Result Line ShFault → Result Line ℕ → Type 0
Reads (Ok line) read = read ≡ Ok line
Reads (Err (fault.Text at)) read = read ≡ Err at
Reads (Err fault.NoMemory) read = ⊤
