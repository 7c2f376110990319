-- The words of users and groups, of which list of a node is meant, of access lists and of labels. The
-- texts of a list and of a label are those of acl_core and label_core.
use Rattle.std.specs.Prelude.{ℕ, ◌^◌, List, [], ◌∷◌, length, Option, Some, None, nat_le, if◌then◌else◌, codes, option_map, option_and_then}
use Rattle.std.specs.Str.{bytes_eq, byte}
use Rattle.std.specs.Result.{result_ok}
use Rattle.label_core.specs.declared.element.Element.{Element}
use Rattle.label_core.specs.Subject.{Parts}
use Rattle.label_core.specs.Reading.{element_of, subject_of}
use Rattle.acl_core.specs.declared.entry.Entry.{Entry}
use Rattle.acl_core.specs.declared.cred.TheConstants.{MOST_GROUPS}
use Rattle.acl_core.specs.Reading.{read_of}
use Rattle.call_words.specs.declared.attr.WhichList.{WhichList}
use Rattle.call_words.specs.declared.attr.WhichList.TheVariants as which
use Rattle.script_text.specs.Words.{only_if, number_below, parts_of}

-- the number of a user or a group has 32 bits
abbrev pub id_of : List ℕ → Option ℕ
id_of w = number_below 10 (2 ^ 32) w

-- the numbers of words, where each is one
abbrev pub ids_of : List (List ℕ) → Option (List ℕ)
ids_of [] = Some []
ids_of (w ∷ ws) = option_and_then (λ n. option_map (λ ns. n ∷ ns) (ids_of ws)) (id_of w)

-- at most 16 groups
abbrev pub if_few : Option (List ℕ) → Option (List ℕ)
if_few groups = option_and_then (λ ns. only_if (nat_le (length ns) MOST_GROUPS) (Some ns)) groups

-- a dash for no groups, or 1 to 16 numbers joined by plus signs
unfoldable pub groups_of : List ℕ → Option (List ℕ)
groups_of w = if bytes_eq w (codes "-") then Some [] else if_few (ids_of (parts_of (byte "+") w))

abbrev pub which_of : List ℕ → Option WhichList
which_of w =
    if bytes_eq w (codes "access") then Some which.Access
    else if bytes_eq w (codes "default") then Some which.Default
    else None

-- the entries of a list's text, whether they make a list or not
abbrev pub entries_of : List ℕ → Option (List Entry)
entries_of w = result_ok (read_of w)

-- the element of a label's text
abbrev pub label_of : List ℕ → Option Element
label_of w = result_ok (element_of w)

-- the subject of a label's text
abbrev pub subject_label_of : List ℕ → Option Parts
subject_label_of w = result_ok (subject_of w)

-- the word that is printed of which list is meant
abbrev pub which_word : WhichList → List ℕ
which_word which.Access = codes "access"
which_word which.Default = codes "default"
