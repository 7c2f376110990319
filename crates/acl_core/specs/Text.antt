-- The text of a list.
use Rattle.std.specs.Prelude.{◌≡◌, ℕ, ◌+◌, ◌<◌, ◌≤◌, List, [], ◌∷◌, ◌++◌, length, take, map, codes, if◌then◌else◌}
use Rattle.std.specs.List.{AllByRecursion, join_with_byte}
use Rattle.std.specs.Fmt.{decimal}
use Rattle.acl_core.specs.declared.perm.Perm.{Perm}
use Rattle.acl_core.specs.declared.entry.Tag.{Tag}
use Rattle.acl_core.specs.declared.entry.Tag.TheVariants.{UserObj, User, GroupObj, Group, Mask, Other}
use Rattle.acl_core.specs.declared.entry.Entry.{Entry}
use Rattle.acl_core.specs.declared.entry.TheConstants.{MOST_ENTRIES}
use Rattle.acl_core.specs.declared.text.TheConstants.{DASH, COMMA, LETTER_R, LETTER_W, LETTER_X}
use Rattle.acl_core.specs.Entry.{Fits}

-- whom an entry is about: two colons, or a number between them
abbrev pub tag_text : Tag → List ℕ
tag_text UserObj = codes "user::"
tag_text (User n) = codes "user:" ++ decimal n ++ codes ":"
tag_text GroupObj = codes "group::"
tag_text (Group n) = codes "group:" ++ decimal n ++ codes ":"
tag_text Mask = codes "mask::"
tag_text Other = codes "other::"

-- three letters, and a dash for each bit that is missing
abbrev pub perm_text : Perm → List ℕ
perm_text p =
    (if p.read then LETTER_R else DASH) ∷ (if p.write then LETTER_W else DASH) ∷ (if p.exec then LETTER_X else DASH) ∷ []

-- a tag and a permission
abbrev pub entry_text : Entry → List ℕ
entry_text e = tag_text e.tag ++ perm_text e.perm

-- an entry after a comma
abbrev pub next_text : Entry → List ℕ
next_text e = COMMA ∷ entry_text e

-- the entries joined by commas, and a dash where there is none
unfoldable pub list_text : List Entry → List ℕ
list_text [] = DASH ∷ []
list_text (e ∷ list) = join_with_byte COMMA (map entry_text (e ∷ list))

-- what has a text: at most 64 entries, valid or not, with numbers of 32 bits
pub record HasText (list : List Entry) : Type 0 where
  pub most : length list ≤ MOST_ENTRIES
  pub fit : AllByRecursion Fits list

-- the text of some entries begins with these bytes
abbrev pub Begins : List ℕ → Type 0
Begins front = (list : List Entry) × (more : List ℕ) × HasText list × (list_text list ≡ front ++ more)

-- some bytes, and none of them a blank, a newline or another byte without a glyph
pub record IsWord (bytes : List ℕ) : Type 0 where
  pub some : 0 < length bytes
  pub graphic : AllByRecursion (λ b. (33 ≤ b) × (b ≤ 126)) bytes

-- where a text that is none has its fault: at the first byte that no text has there, or at its length where it ends early
pub record IsFaultAt (text : List ℕ) (at : ℕ) : Type 0 where
  pub within : at ≤ length text
  pub before : Begins (take at text)
  pub there : at < length text → ¬ (Begins (take (at + 1) text))
