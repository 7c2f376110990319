-- The grammar of a list's text, read from left to right. Each function gives what it reads and the bytes after it,
-- or how many bytes are left from the first one on that no list has there.
use Rattle.std.specs.Prelude.{◌≡◌, ℕ, zero, suc, ◌+◌, ◌-◌, ◌*◌, ◌^◌, ◌==◌, nat_lt, Bool, true, false, List, [], ◌∷◌, length, Option, Some, None, Result, Ok, Err, codes, if◌then◌else◌}
use Rattle.std.specs.Char.{is_ascii_digit}
use Rattle.acl_core.specs.declared.perm.Perm.{Perm}
use Rattle.acl_core.specs.declared.entry.Tag.{Tag}
use Rattle.acl_core.specs.declared.entry.Tag.TheVariants.{UserObj, User, GroupObj, Group, Mask, Other}
use Rattle.acl_core.specs.declared.entry.Entry.{Entry}
use Rattle.acl_core.specs.declared.entry.TheConstants.{MOST_ENTRIES}
use Rattle.acl_core.specs.declared.fault.ListFault.{ListFault}
use Rattle.acl_core.specs.declared.fault.Stop.{Stop}
use Rattle.acl_core.specs.declared.text.TheConstants.{DASH, COLON, COMMA, ZERO, LETTER_R, LETTER_W, LETTER_X}

-- a step, and the next one where it did not stop
infixl 10 ◌>>=◌
abbrev pub ◌>>=◌ : {A B : Type 0} → Result A Stop → (A → Result B Stop) → Result B Stop
(Ok x) >>= f = f x
(Err stop) >>= f = Err stop

-- what a function returned, seen by view, is what reading gives
abbrev pub Gives : {X Y : Type 0} → (X → Y) → Result X Stop → Result Y Stop → Type 0
Gives view (Ok x) read = read ≡ Ok (view x)
Gives view (Err stop) read = read ≡ Err stop

-- a fault at the first of these bytes, or at the end where there is none
abbrev pub stop_at : List ℕ → Stop
stop_at bytes = record { left = length bytes }

-- the first that reads, and the fault of the second where neither does
abbrev pub or_else : {A : Type 0} → Result A Stop → Result A Stop → Result A Stop
or_else (Ok x) second = Ok x
or_else (Err stop) second = second

-- one byte
abbrev pub byte_at : ℕ → List ℕ → Result (List ℕ) Stop
byte_at b [] = Err (stop_at [])
byte_at b (c ∷ rest) = if c == b then Ok rest else Err (stop_at (c ∷ rest))

-- the bytes of a word
abbrev pub word_at : List ℕ → List ℕ → Result (List ℕ) Stop
word_at [] bytes = Ok bytes
word_at (b ∷ word) bytes = byte_at b bytes >>= word_at word

-- a number with one more digit
abbrev pub with_digit : ℕ → ℕ → ℕ
with_digit n digit = n * 10 + (digit - ZERO)

-- the digits that go on with a number, up to 32 bits
unfoldable pub digits_at : ℕ → List ℕ → Result (ℕ × List ℕ) Stop
digits_at n [] = Ok (n, [])
digits_at n (b ∷ rest) =
    if is_ascii_digit b then (if nat_lt (with_digit n b) (2 ^ 32) then digits_at (with_digit n b) rest else Err (stop_at (b ∷ rest)))
    else Ok (n, b ∷ rest)

-- a number in decimal; no digit follows a leading zero
unfoldable pub number_at : List ℕ → Result (ℕ × List ℕ) Stop
number_at [] = Err (stop_at [])
number_at (b ∷ rest) =
    if b == ZERO then Ok (0, rest)
    else (if is_ascii_digit b then digits_at (b - ZERO) rest else Err (stop_at (b ∷ rest)))

-- a number and a colon
unfoldable pub numbered_at : List ℕ → Result (Option ℕ × List ℕ) Stop
numbered_at bytes = do
  n ← number_at bytes
  rest ← byte_at COLON n.1
  Ok (Some n.0, rest)

-- a colon alone, or a number and a colon
unfoldable pub qualifier_at : List ℕ → Result (Option ℕ × List ℕ) Stop
qualifier_at bytes = or_else (byte_at COLON bytes >>= λ rest. Ok (None, rest)) (numbered_at bytes)

-- the bytes begin with the first byte of the word
abbrev pub begins_as : List ℕ → List ℕ → Bool
begins_as (b ∷ word) (c ∷ rest) = c == b
begins_as _ _ = false

-- the tag behind the word `user`, and behind the word `group`
abbrev pub user_tag : Option ℕ → Tag
user_tag None = UserObj
user_tag (Some n) = User n

abbrev pub group_tag : Option ℕ → Tag
group_tag None = GroupObj
group_tag (Some n) = Group n

-- a tag; its first byte tells its word
unfoldable pub tag_at : List ℕ → Result (Tag × List ℕ) Stop
tag_at bytes =
    if begins_as (codes "user:") bytes then (do
      rest ← word_at (codes "user:") bytes
      uid ← qualifier_at rest
      Ok (user_tag uid.0, uid.1))
    else (if begins_as (codes "group:") bytes then (do
      rest ← word_at (codes "group:") bytes
      gid ← qualifier_at rest
      Ok (group_tag gid.0, gid.1))
    else (if begins_as (codes "mask::") bytes then (do
      rest ← word_at (codes "mask::") bytes
      Ok (Mask, rest))
    else (if begins_as (codes "other::") bytes then (do
      rest ← word_at (codes "other::") bytes
      Ok (Other, rest))
    else Err (stop_at bytes))))

-- a letter or a dash
abbrev pub letter_at : ℕ → List ℕ → Result (Bool × List ℕ) Stop
letter_at letter [] = Err (stop_at [])
letter_at letter (b ∷ rest) = if b == letter then Ok (true, rest) else (if b == DASH then Ok (false, rest) else Err (stop_at (b ∷ rest)))

-- the letters r, w and x, or a dash for each
unfoldable pub perm_at : List ℕ → Result (Perm × List ℕ) Stop
perm_at bytes = do
  r ← letter_at LETTER_R bytes
  w ← letter_at LETTER_W r.1
  x ← letter_at LETTER_X w.1
  Ok (record { read = r.0; write = w.0; exec = x.0 }, x.1)

-- a tag and a permission
unfoldable pub entry_at : List ℕ → Result (Entry × List ℕ) Stop
entry_at bytes = do
  tag ← tag_at bytes
  perm ← perm_at tag.1
  Ok (record { tag = tag.0; perm = perm.0 }, perm.1)

-- a comma and an entry
abbrev pub next_at : List ℕ → Result (Entry × List ℕ) Stop
next_at bytes = byte_at COMMA bytes >>= entry_at

-- at most so many more entries, each after a comma, to the end of the text
unfoldable pub more_at : ℕ → List ℕ → Result (List Entry) Stop
more_at room [] = Ok []
more_at zero (b ∷ rest) = Err (stop_at (b ∷ rest))
more_at (suc room) (b ∷ rest) = do
  next ← next_at (b ∷ rest)
  others ← more_at room next.1
  Ok (next.0 ∷ others)

-- the entries to the end of the text, of which there is at least one
unfoldable pub entries_at : List ℕ → Result (List Entry) Stop
entries_at bytes = do
  first ← entry_at bytes
  others ← more_at (MOST_ENTRIES - 1) first.1
  Ok (first.0 ∷ others)

-- the whole text: a dash alone, or entries
unfoldable pub list_at : List ℕ → Result (List Entry) Stop
list_at bytes =
    if begins_as (codes "-") bytes then (do
      rest ← byte_at DASH bytes
      if length rest == 0 then Ok [] else Err (stop_at rest))
    else entries_at bytes

-- the fault's place, counted from the text's start
abbrev pub with_place : List ℕ → Result (List Entry) Stop → Result (List Entry) ListFault
with_place text (Ok list) = Ok list
with_place text (Err stop) = Err (record { at = length text - stop.left })

-- the entries of a text, or its fault
unfoldable pub read_of : List ℕ → Result (List Entry) ListFault
read_of text = with_place text (list_at text)
