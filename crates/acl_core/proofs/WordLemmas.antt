-- The text of entries is one word.
use Rattle.std.proofs.Common.{◌≡◌, ℕ, ◌+◌, ◌*◌, ◌%◌, ◌^◌, ◌<◌, ◌≤◌, Bool, true, false, cond, leb, List, [], ◌∷◌, ◌++◌, length, length-append, refl, sym, ap, subst, ◌∙◌, arith}
use Rattle.std.specs.Prelude.{codes, ◌&&◌}
use Rattle.std.specs.List.{flat_map, list_all, AllByRecursion}
use Rattle.std.proofs.lemmas.Bool.{and_parts, leb-true}
use Rattle.std.specs.Fmt.{decimal}
use Rattle.std.proofs.lemmas.Fmt.{decimal_by_steps}
use Rattle.std.proofs.lemmas.List.Concat.{flat_map-cons}
use Rattle.acl_core.specs.declared.entry.Tag.{Tag}
use Rattle.acl_core.specs.declared.entry.Tag.TheVariants.{UserObj, User, GroupObj, Group, Mask, Other}
use Rattle.acl_core.specs.declared.entry.Entry.{Entry}
use Rattle.acl_core.specs.declared.perm.Perm.{Perm}
use Rattle.acl_core.specs.Entry.{Fits, qualifier}
use Rattle.acl_core.specs.Text.{tag_text, perm_text, entry_text, next_text, list_text, HasText, IsWord}
use Rattle.acl_core.proofs.DecimalLemmas.{length-decimal_32}
use Rattle.acl_core.proofs.TextLemmas.{list_text-cons}

-- each byte has a glyph and is no blank
abbrev pub Graphic : List ℕ → Type 0
Graphic bytes = AllByRecursion (λ b. (33 ≤ b) × (b ≤ 126)) bytes

-- two such texts joined are one
graphic_append : (xs ys : List ℕ) → Graphic xs → Graphic ys → Graphic (xs ++ ys)
graphic_append [] ys first second = second
graphic_append (x ∷ xs) ys first second = (first.0, graphic_append xs ys first.1 second)

-- digits are such a text
graphic_decimal : (n : ℕ) → n < 2 ^ 32 → Graphic (decimal n)
graphic_decimal n fits =
    decimal_by_steps (λ n ds. Graphic ds)
    (λ n below. ((omega arith, omega arith), tt))
    (λ n ds ten before. graphic_append ds ((48 + n % 10) ∷ []) before ((omega arith, omega arith), tt))
    n (omega arith)

-- a text that passes a test is such a text
graphic_codes : (bytes : List ℕ) → list_all (λ b. leb 33 b && leb b 126) bytes ≡ true → Graphic bytes
graphic_codes [] h = tt
graphic_codes (b ∷ bytes) h =
    let parts = and_parts _ _ h in
    let here = and_parts _ _ parts.0 in
    ((leb-true _ _ here.0, leb-true _ _ here.1), graphic_codes bytes parts.1)

-- a tag has such a text
graphic_tag : (tag : Tag) → qualifier tag < 2 ^ 32 → Graphic (tag_text tag)
graphic_tag UserObj fits = graphic_codes (codes "user::") refl
graphic_tag (User n) fits =
    graphic_append (codes "user:" ++ decimal n) (codes ":")
    (graphic_append (codes "user:") (decimal n) (graphic_codes (codes "user:") refl) (graphic_decimal n fits)) (graphic_codes (codes ":") refl)
graphic_tag GroupObj fits = graphic_codes (codes "group::") refl
graphic_tag (Group n) fits =
    graphic_append (codes "group:" ++ decimal n) (codes ":")
    (graphic_append (codes "group:") (decimal n) (graphic_codes (codes "group:") refl) (graphic_decimal n fits)) (graphic_codes (codes ":") refl)
graphic_tag Mask fits = graphic_codes (codes "mask::") refl
graphic_tag Other fits = graphic_codes (codes "other::") refl

-- a permission has such a text
graphic_perm : (p : Perm) → Graphic (perm_text p)
graphic_perm p =
    (letter 114 p.read (omega arith) (omega arith), (letter 119 p.write (omega arith) (omega arith), (letter 120 p.exec (omega arith) (omega arith), tt)))
  where
    letter : (c : ℕ) (set : Bool) → 33 ≤ c → c ≤ 126 → (33 ≤ cond set c 45) × (cond set c 45 ≤ 126)
    letter c true low high = (low, high)
    letter c false low high = (omega arith, omega arith)

-- an entry has such a text
graphic_entry : (e : Entry) → Fits e → Graphic (entry_text e)
graphic_entry e fits = graphic_append (tag_text e.tag) (perm_text e.perm) (graphic_tag e.tag fits) (graphic_perm e.perm)

-- entries after commas have such a text
graphic_more : (list : List Entry) → AllByRecursion Fits list → Graphic (flat_map next_text list)
graphic_more [] fits = tt
graphic_more (e ∷ list) fits =
    subst Graphic (sym (flat_map-cons next_text e list))
    (graphic_append (next_text e) (flat_map next_text list) ((omega arith, omega arith), graphic_entry e fits.0) (graphic_more list fits.1))

-- the text of a tag is not empty
some_text : (tag : Tag) (rest : List ℕ) → 0 < length (tag_text tag ++ rest)
some_text UserObj rest = omega arith
some_text (User n) rest = omega arith
some_text GroupObj rest = omega arith
some_text (Group n) rest = omega arith
some_text Mask rest = omega arith
some_text Other rest = omega arith

-- the text of a list is a word
pub list_is_word : (list : List Entry) → HasText list → IsWord (list_text list)
unfolding list_text
list_is_word [] has_text = record { some = omega arith; graphic = ((omega arith, omega arith), tt) }
list_is_word (e ∷ list) has_text =
    let more = flat_map next_text list in
    let all : Graphic (entry_text e ++ more) = graphic_append (entry_text e) more (graphic_entry e has_text.fit.0) (graphic_more list has_text.fit.1) in
    let long : 0 < length (entry_text e ++ more) = omega (arith, length-append (entry_text e) more, length-append (tag_text e.tag) (perm_text e.perm)) in
    subst IsWord (sym (list_text-cons e list)) (record { some = long; graphic = all })

-- ---- how long a text is

-- a tag has at most 17 bytes
short_tag : (tag : Tag) → qualifier tag < 2 ^ 32 → length (tag_text tag) ≤ 17
short_tag UserObj fits = omega arith
short_tag (User n) fits =
    omega (arith, length-append (codes "user:" ++ decimal n) (codes ":"), length-append (codes "user:") (decimal n), length-decimal_32 n fits)
short_tag GroupObj fits = omega arith
short_tag (Group n) fits =
    omega (arith, length-append (codes "group:" ++ decimal n) (codes ":"), length-append (codes "group:") (decimal n), length-decimal_32 n fits)
short_tag Mask fits = omega arith
short_tag Other fits = omega arith

-- an entry has at most 20
short_entry : (e : Entry) → Fits e → length (entry_text e) ≤ 20
short_entry e fits = omega (arith, length-append (tag_text e.tag) (perm_text e.perm), short_tag e.tag fits)

-- an entry after a comma has at most 21
short_more : (list : List Entry) → AllByRecursion Fits list → length (flat_map next_text list) ≤ 21 * length list
short_more [] fits = omega arith
short_more (e ∷ list) fits =
    let cons : length (flat_map next_text (e ∷ list)) ≡ length (next_text e) + length (flat_map next_text list) =
    ap length (flat_map-cons next_text e list) ∙ length-append (next_text e) (flat_map next_text list) in
    omega (arith, cons, short_entry e fits.0, short_more list fits.1)

-- 64 entries have at most 1,343
pub list_is_short : (list : List Entry) → HasText list → length (list_text list) ≤ 1343
unfolding list_text
list_is_short [] has_text = omega arith
list_is_short (e ∷ list) has_text =
    let cons : length (list_text (e ∷ list)) ≡ length (entry_text e) + length (flat_map next_text list) =
    ap length (list_text-cons e list) ∙ length-append (entry_text e) (flat_map next_text list) in
    omega (arith, cons, short_entry e has_text.fit.0, short_more list has_text.fit.1, has_text.most)
