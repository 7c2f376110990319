-- Lines as a grammar, after POSIX.1, XCU 2.2 (quoting), 2.7 (redirection) and 2.9 (pipelines and lists): ways to write,
-- how each is spelled, and what it means.
use Rattle.std.specs.Prelude.{◌≡◌, ℕ, ◌≤◌, Bool, true, false, ◌==◌, List, [], ◌∷◌, ◌++◌, length, map, flat_map, Option, Some, None, codes, ⊤, IsTrue}
use Rattle.std.specs.List.{AllByRecursion}
use Rattle.std.specs.Str.{byte}
use Rattle.sh_text.specs.declared.tree.Command.{Command}
use Rattle.sh_text.specs.declared.tree.Job.{Job}
use Rattle.sh_text.specs.declared.tree.Line.{Line}
use Rattle.sh_text.specs.Bytes.{is_blank, ends_word}

-- the ways to write a part of a word: a byte as it is, bytes between single quotes, and a byte behind a backslash
pub data Part : Type 0 where
  bare : ℕ → Part
  in_quotes : List ℕ → Part
  behind_backslash : ℕ → Part

-- a byte that is no single quote
abbrev pub IsNoQuote : ℕ → Type 0
IsNoQuote b = (b == byte "'") ≡ false

-- a bare byte is no mark, no blank and no quote, and no single quote stands between two
abbrev pub IsPart : Part → Type 0
IsPart (bare b) = (ends_word b ≡ false) × IsNoQuote b × ((b == byte "\\") ≡ false)
IsPart (in_quotes bytes) = AllByRecursion IsNoQuote bytes
IsPart (behind_backslash b) = ⊤

-- how a part is spelled
abbrev pub spelled_part : Part → List ℕ
spelled_part (bare b) = b ∷ []
spelled_part (in_quotes bytes) = codes "'" ++ bytes ++ codes "'"
spelled_part (behind_backslash b) = codes "\\" ++ b ∷ []

-- the bytes that it means
abbrev pub meant_part : Part → List ℕ
meant_part (bare b) = b ∷ []
meant_part (in_quotes bytes) = bytes
meant_part (behind_backslash b) = b ∷ []

-- a word is written as parts, of which it has at least one
abbrev pub IsWord : List Part → Type 0
IsWord parts = (1 ≤ length parts) × AllByRecursion IsPart parts

-- the bytes go on with none that a word could have there
abbrev pub EndsWord : List ℕ → Type 0
EndsWord [] = ⊤
EndsWord (b ∷ rest) = ends_word b ≡ true

-- the bytes are a word's spelling, as long as it goes, and the rest
pub record SpellsWord (bytes word rest : List ℕ) : Type 0 where
  pub parts : List Part
  pub valid : IsWord parts
  pub spelling : bytes ≡ flat_map spelled_part parts ++ rest
  pub meaning : flat_map meant_part parts ≡ word
  pub ends : EndsWord rest

-- bytes that are blanks or tabs, or none
abbrev pub AreBlanks : List ℕ → Type 0
AreBlanks bytes = AllByRecursion (λ b. is_blank b ≡ true) bytes

-- the ways to write an item of a command: a word of its own; and a mark of redirection with blanks or none behind it and
-- a word, for input, for output, and for output that is appended
pub data Item : Type 0 where
  own : List Part → Item
  input_from : List ℕ → List Part → Item
  output_to : List ℕ → List Part → Item
  append_to : List ℕ → List Part → Item

-- its word is a word, and its blanks are blanks
abbrev pub IsItem : Item → Type 0
IsItem (own word) = IsWord word
IsItem (input_from blanks word) = AreBlanks blanks × IsWord word
IsItem (output_to blanks word) = AreBlanks blanks × IsWord word
IsItem (append_to blanks word) = AreBlanks blanks × IsWord word

-- how an item is spelled
abbrev pub spelled_item : Item → List ℕ
spelled_item (own word) = flat_map spelled_part word
spelled_item (input_from blanks word) = codes "<" ++ blanks ++ flat_map spelled_part word
spelled_item (output_to blanks word) = codes ">" ++ blanks ++ flat_map spelled_part word
spelled_item (append_to blanks word) = codes ">>" ++ blanks ++ flat_map spelled_part word

-- the words of the command's own that it means, one or none
abbrev pub words_of : Item → List (List ℕ)
words_of (own word) = flat_map meant_part word ∷ []
words_of (input_from blanks word) = []
words_of (output_to blanks word) = []
words_of (append_to blanks word) = []

-- the inputs that it means, one or none
abbrev pub inputs_of : Item → List (List ℕ)
inputs_of (own word) = []
inputs_of (input_from blanks word) = flat_map meant_part word ∷ []
inputs_of (output_to blanks word) = []
inputs_of (append_to blanks word) = []

-- the outputs that it means, one or none, each with whether it is appended to
abbrev pub outputs_of : Item → List (Bool × List ℕ)
outputs_of (own word) = []
outputs_of (input_from blanks word) = []
outputs_of (output_to blanks word) = (false, flat_map meant_part word) ∷ []
outputs_of (append_to blanks word) = (true, flat_map meant_part word) ∷ []

-- an item with the blanks before it, or none
pub record SpacedItem : Type 0 where
  pub blanks : List ℕ
  pub item : Item

-- the blanks are blanks, and the item is an item
abbrev pub IsSpacedItem : SpacedItem → Type 0
IsSpacedItem spaced = AreBlanks spaced.blanks × IsItem spaced.item

-- whether the item begins with a word, and not with a mark
abbrev pub is_own : Item → Bool
is_own (own word) = true
is_own (input_from blanks word) = false
is_own (output_to blanks word) = false
is_own (append_to blanks word) = false

-- an item behind another: a word has a blank before it, since it would go on with the other's word else
abbrev pub StandsApart : SpacedItem → Type 0
StandsApart spaced = IsTrue (is_own spaced.item) → 1 ≤ length spaced.blanks

abbrev pub spelled_spaced_item : SpacedItem → List ℕ
spelled_spaced_item spaced = spaced.blanks ++ spelled_item spaced.item

-- a way to write a command: a first item, more items, and the blanks behind them
pub record CommandWriting : Type 0 where
  pub first : SpacedItem
  pub more : List SpacedItem
  pub blanks : List ℕ

abbrev pub items : CommandWriting → List Item
items command = map (λ spaced. spaced.item) (command.first ∷ command.more)

-- a command has at least one word of its own, and at most one input and one output
pub record IsCommand (command : CommandWriting) : Type 0 where
  pub are_items : AllByRecursion IsSpacedItem (command.first ∷ command.more)
  pub apart : AllByRecursion StandsApart command.more
  pub are_blanks : AreBlanks command.blanks
  pub some_word : 1 ≤ length (flat_map words_of (items command))
  pub one_input : length (flat_map inputs_of (items command)) ≤ 1
  pub one_output : length (flat_map outputs_of (items command)) ≤ 1

abbrev pub spelled_command : CommandWriting → List ℕ
spelled_command command = flat_map spelled_spaced_item (command.first ∷ command.more) ++ command.blanks

-- the first of the inputs
abbrev pub input_in : List (List ℕ) → Option (List ℕ)
input_in [] = None
input_in (word ∷ more) = Some word

-- the first of the outputs
abbrev pub output_in : List (Bool × List ℕ) → Option (List ℕ)
output_in [] = None
output_in (output ∷ more) = Some output.1

-- and whether it is appended to
abbrev pub append_in : List (Bool × List ℕ) → Bool
append_in [] = false
append_in (output ∷ more) = output.0

-- the command with these words, inputs and outputs
abbrev pub command_of : List (List ℕ) → List (List ℕ) → List (Bool × List ℕ) → Command
command_of words inputs outputs = record { words = words; input = input_in inputs; output = output_in outputs; append = append_in outputs }

-- the command that it means
abbrev pub meant_command : CommandWriting → Command
meant_command command = command_of (flat_map words_of (items command)) (flat_map inputs_of (items command)) (flat_map outputs_of (items command))

-- a way to write the commands of a job: a first one, and more, each behind a bar
pub record JobWriting : Type 0 where
  pub first : CommandWriting
  pub more : List CommandWriting

-- there are 1 to 8 commands
abbrev pub IsJob : JobWriting → Type 0
IsJob job = AllByRecursion IsCommand (job.first ∷ job.more) × (length (job.first ∷ job.more) ≤ 8)

abbrev pub spelled_job : JobWriting → List ℕ
spelled_job job = spelled_command job.first ++ flat_map (λ command. codes "|" ++ spelled_command command) job.more

-- the job that they mean, in the background or not
abbrev pub meant_job : Bool → JobWriting → Job
meant_job background job = record { commands = map meant_command (job.first ∷ job.more); background = background }

-- the marks that end a job
pub data End : Type 0 where
  semicolon : End
  ampersand : End

abbrev pub spelled_end : End → List ℕ
spelled_end semicolon = codes ";"
spelled_end ampersand = codes "&"

-- an ampersand sends its job to the background
abbrev pub is_background : End → Bool
is_background semicolon = false
is_background ampersand = true

-- a job with the mark that ends it
pub record EndedJob : Type 0 where
  pub job : JobWriting
  pub end : End

abbrev pub IsEndedJob : EndedJob → Type 0
IsEndedJob ended_job = IsJob ended_job.job

abbrev pub spelled_ended_job : EndedJob → List ℕ
spelled_ended_job ended_job = spelled_job ended_job.job ++ spelled_end ended_job.end

abbrev pub meant_ended_job : EndedJob → Job
meant_ended_job ended_job = meant_job (is_background ended_job.end) ended_job.job

-- the ways to end a line, behind the jobs that have their mark: with blanks or nothing, and with a job without a mark
pub data Last : Type 0 where
  nothing : List ℕ → Last
  last_job : JobWriting → Last

abbrev pub IsLast : Last → Type 0
IsLast (nothing blanks) = AreBlanks blanks
IsLast (last_job job) = IsJob job

abbrev pub spelled_last : Last → List ℕ
spelled_last (nothing blanks) = blanks
spelled_last (last_job job) = spelled_job job

abbrev pub meant_last : Last → List Job
meant_last (nothing blanks) = []
meant_last (last_job job) = meant_job false job ∷ []

-- a way to write a line
pub record LineWriting : Type 0 where
  pub ended_jobs : List EndedJob
  pub last : Last

abbrev pub IsLine : LineWriting → Type 0
IsLine line = AllByRecursion IsEndedJob line.ended_jobs × IsLast line.last

abbrev pub spelled_line : LineWriting → List ℕ
spelled_line line = flat_map spelled_ended_job line.ended_jobs ++ spelled_last line.last

abbrev pub meant_line : LineWriting → Line
meant_line line = record { jobs = map meant_ended_job line.ended_jobs ++ meant_last line.last }

-- the text spells the line
pub record SpellsLine (text : List ℕ) (line : Line) : Type 0 where
  pub writing : LineWriting
  pub valid : IsLine writing
  pub spelling : text ≡ spelled_line writing
  pub meaning : meant_line writing ≡ line
