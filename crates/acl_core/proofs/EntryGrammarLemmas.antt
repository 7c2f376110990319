-- The readers of a list's text, each with the text that it reads.
use Rattle.std.proofs.Common.{◌≡◌, ℕ, ◌^◌, ◌<◌, ◌⊎◌, inl, inr, Bool, true, false, cond, eqb, List, [], ◌∷◌, ◌++◌, Option, Some, None, Result, Ok, Err, refl, sym, ap, subst, ◌∙◌, append_assoc, append-nil, arith}
use Rattle.std.specs.Prelude.{codes}
use Rattle.std.specs.Fmt.{decimal}
use Rattle.std.proofs.lemmas.Bool.{cases_Bool, eqb-true, eq-eqb}
use Rattle.acl_core.specs.declared.perm.Perm.{Perm}
use Rattle.acl_core.specs.declared.entry.Tag.{Tag}
use Rattle.acl_core.specs.declared.entry.Tag.TheVariants.{UserObj, User, GroupObj, Group, Mask, Other}
use Rattle.acl_core.specs.declared.entry.Entry.{Entry}
use Rattle.acl_core.specs.Entry.{qualifier, Fits}
use Rattle.acl_core.specs.Text.{tag_text, perm_text, entry_text}
use Rattle.acl_core.specs.Reading.{◌>>=◌, byte_at, word_at, number_at, numbered_at, qualifier_at, begins_as, user_tag, group_tag, tag_at, letter_at, perm_at, entry_at, stop_at}
use Rattle.acl_core.proofs.ReaderLemmas.{FaultIn, Reads, byte_found, byte_again, byte_differs, byte_missing, word_reads, both_reads, done_reads, word_then_reads, same_values, none_reads, choice_reads}
use Rattle.acl_core.specs.declared.fault.Stop.{Stop}
use Rattle.acl_core.proofs.NumberLemmas.{qualifier_text, IsNumber, numbered_reads}

-- ---- a colon alone, or a number and a colon

-- nothing, or a number of 32 bits
abbrev pub IsQualifier : Option ℕ → Type 0
IsQualifier None = Unit {0}
IsQualifier (Some n) = n < 2 ^ 32

-- a number of 32 bits is a qualifier
number_is_qualifier : (o : Option ℕ) → IsNumber o → IsQualifier o
number_is_qualifier None v = tt
number_is_qualifier (Some n) v = v

-- what a reader answers
either_answer : {A : Type 0} (r : Result A Stop) → ((x : A) × (r ≡ Ok x)) ⊎ ((n : Stop) × (r ≡ Err n))
either_answer (Ok x) = inl (x, refl)
either_answer (Err n) = inr (n, refl)

-- a colon is read as no number
qualifier_alone : (bytes rest : List ℕ) → byte_at 58 bytes ≡ Ok rest → qualifier_at bytes ≡ Ok (None, rest)
unfolding qualifier_at
qualifier_alone bytes rest e = rw e refl

-- without a colon a number and a colon are read
qualifier_numbered : (bytes : List ℕ) (n : Stop) → byte_at 58 bytes ≡ Err n → qualifier_at bytes ≡ numbered_at bytes
unfolding qualifier_at
qualifier_numbered bytes n e = rw e refl

-- what is read is spelled so
qualifier_found : (bytes : List ℕ) (o : Option ℕ) (rest : List ℕ) → qualifier_at bytes ≡ Ok (o, rest) → (bytes ≡ qualifier_text o ++ rest) × IsQualifier o
qualifier_found bytes o rest e =
    elim (either_answer (byte_at 58 bytes)) [
      | inl colon ↦
          let is : ◌≡◌ {A = Result (Option ℕ × List ℕ) Stop} (Ok (None, colon.0)) (Ok (o, rest)) = sym (qualifier_alone bytes colon.0 colon.1) ∙ e in
          let same : ◌≡◌ {A = Option ℕ × List ℕ} (None, colon.0) (o, rest) = cc in
          subst (λ (x : Option ℕ × List ℕ). (bytes ≡ qualifier_text x.0 ++ x.1) × IsQualifier x.0) same (byte_found 58 bytes colon.0 colon.1, tt)
      | inr other ↦
          let f = numbered_reads.takes bytes o rest (sym (qualifier_numbered bytes other.0 other.1) ∙ e) in
          (f.0, number_is_qualifier o f.1)
    ]

-- no number begins with a colon
colon_no_number : (rest : List ℕ) → numbered_at (58 ∷ rest) ≡ Err (stop_at (58 ∷ rest))
unfolding numbered_at number_at
colon_no_number rest = refl

-- what is spelled so is read
qualifier_again : (o : Option ℕ) (rest : List ℕ) → IsQualifier o → qualifier_at (qualifier_text o ++ rest) ≡ Ok (o, rest)
qualifier_again None rest v = qualifier_alone (58 ∷ rest) rest (byte_again 58 rest)
qualifier_again (Some n) rest v =
    let bytes = qualifier_text (Some n) ++ rest in
    let read = numbered_reads.again (Some n) rest v in
    elim (either_answer (byte_at 58 bytes)) [
      | inl colon ↦
          let is : ◌≡◌ {A = Result (Option ℕ × List ℕ) Stop} (Err (stop_at (58 ∷ colon.0))) (Ok (Some n, rest)) =
          sym (colon_no_number colon.0) ∙ ap numbered_at (sym (byte_found 58 bytes colon.0 colon.1)) ∙ read in
          absurd cc
      | inr other ↦ qualifier_numbered bytes other.0 other.1 ∙ read
    ]

-- the first byte of the text is still no colon
still_missing : (bytes front back : List ℕ) (b : ℕ) (rest other : List ℕ) → ((c : ℕ) (more : List ℕ) → bytes ≡ c ∷ more → eqb c 58 ≡ false)
    → bytes ≡ front ++ back → back ≡ b ∷ rest → (n : Stop) × (byte_at 58 (front ++ b ∷ other) ≡ Err n)
still_missing bytes [] back b rest other missing parts is = (stop_at (b ∷ other), byte_differs 58 b other (missing b rest (parts ∙ is)))
still_missing bytes (c ∷ front) back b rest other missing parts is =
    (stop_at (c ∷ (front ++ b ∷ other)), byte_differs 58 c (front ++ b ∷ other) (missing c (front ++ back) parts))

-- where a qualifier has its fault
qualifier_fault : (bytes : List ℕ) (stop : Stop) → qualifier_at bytes ≡ Err stop → FaultIn IsQualifier qualifier_text qualifier_at bytes stop
qualifier_fault bytes stop e =
    elim (either_answer (byte_at 58 bytes)) [
      | inl colon ↦
          let is : ◌≡◌ {A = Result (Option ℕ × List ℕ) Stop} (Ok (None, colon.0)) (Err stop) = sym (qualifier_alone bytes colon.0 colon.1) ∙ e in
          absurd cc
      | inr other ↦
          let f = numbered_reads.fault bytes stop (sym (qualifier_numbered bytes other.0 other.1) ∙ e) in
          let m = byte_missing 58 bytes other.0 other.1 in
          record {
            front = f.front;
            back = f.back;
            parts = f.parts;
            place = f.place;
            begins = elim f.begins [ inl none ↦ inl none | inr begun ↦ inr (begun.0, begun.1, number_is_qualifier begun.0 begun.2, begun.3) ];
            firm = λ b rest more is.
                let s = still_missing bytes f.front f.back b rest more m.1 f.parts is in
                qualifier_numbered (f.front ++ b ∷ more) s.0 s.1 ∙ f.firm b rest more is;
          }
    ]

-- the reader of a qualifier
pub qualifier_reads : Reads IsQualifier qualifier_text qualifier_at
qualifier_reads = record { takes = qualifier_found; again = qualifier_again; fault = qualifier_fault }

-- ---- tags

-- the tag's number has 32 bits
abbrev pub FitsTag : Tag → Type 0
FitsTag tag = qualifier tag < 2 ^ 32

-- a tag of some kind: of users, of groups, the mask, other
abbrev pub IsUser : Tag → Type 0
IsUser UserObj = Unit {0}
IsUser (User n) = n < 2 ^ 32
IsUser _ = ⊥

-- a tag of groups
abbrev pub IsGroup : Tag → Type 0
IsGroup GroupObj = Unit {0}
IsGroup (Group n) = n < 2 ^ 32
IsGroup _ = ⊥

-- what follows the word of a tag
abbrev pub user_rest : Tag → List ℕ
user_rest (User n) = qualifier_text (Some n)
user_rest _ = qualifier_text None

-- what follows the word of a tag of groups
abbrev pub group_rest : Tag → List ℕ
group_rest (Group n) = qualifier_text (Some n)
group_rest _ = qualifier_text None

-- a tag of users has its qualifier behind the word
user_joined : (o : Option ℕ) (tag : Tag) → IsQualifier o → tag ≡ user_tag o → IsUser tag × (user_rest tag ≡ qualifier_text o ++ [])
user_joined None tag v is = subst (λ t. IsUser t × (user_rest t ≡ qualifier_text None ++ [])) (sym is) (tt, refl)
user_joined (Some n) tag v is = subst (λ t. IsUser t × (user_rest t ≡ qualifier_text (Some n) ++ [])) (sym is) (v, sym (append-nil (qualifier_text (Some n))))

-- a tag of users has a qualifier
user_parted : (tag : Tag) → IsUser tag → (o : Option ℕ) × IsQualifier o × (tag ≡ user_tag o)
user_parted UserObj v = (None, tt, refl)
user_parted (User n) v = (Some n, v, refl)
user_parted GroupObj v = absurd v
user_parted (Group n) v = absurd v
user_parted Mask v = absurd v
user_parted Other v = absurd v

-- a tag of groups has its qualifier behind the word
group_joined : (o : Option ℕ) (tag : Tag) → IsQualifier o → tag ≡ group_tag o → IsGroup tag × (group_rest tag ≡ qualifier_text o ++ [])
group_joined None tag v is = subst (λ t. IsGroup t × (group_rest t ≡ qualifier_text None ++ [])) (sym is) (tt, refl)
group_joined (Some n) tag v is =
    subst (λ t. IsGroup t × (group_rest t ≡ qualifier_text (Some n) ++ [])) (sym is) (v, sym (append-nil (qualifier_text (Some n))))

-- a tag of groups has a qualifier
group_parted : (tag : Tag) → IsGroup tag → (o : Option ℕ) × IsQualifier o × (tag ≡ group_tag o)
group_parted UserObj v = absurd v
group_parted (User n) v = absurd v
group_parted GroupObj v = (None, tt, refl)
group_parted (Group n) v = (Some n, v, refl)
group_parted Mask v = absurd v
group_parted Other v = absurd v

-- the reader of what follows `user:`
user_rest_reads : Reads IsUser user_rest (λ bytes. qualifier_at bytes >>= λ uid. Ok (user_tag uid.0, uid.1))
user_rest_reads =
    both_reads IsQualifier qualifier_text qualifier_at (λ o tag. tag ≡ user_tag o) (λ _ _. []) (λ o bytes. Ok (user_tag o, bytes)) IsUser user_rest
    qualifier_reads (λ o _. done_reads (user_tag o)) user_joined user_parted (λ o _. (user_tag o, refl))

-- the reader of what follows `group:`
group_rest_reads : Reads IsGroup group_rest (λ bytes. qualifier_at bytes >>= λ gid. Ok (group_tag gid.0, gid.1))
group_rest_reads =
    both_reads IsQualifier qualifier_text qualifier_at (λ o tag. tag ≡ group_tag o) (λ _ _. []) (λ o bytes. Ok (group_tag o, bytes)) IsGroup group_rest
    qualifier_reads (λ o _. done_reads (group_tag o)) group_joined group_parted (λ o _. (group_tag o, refl))

-- the text of a tag of users is its word and the rest
user_text : (tag : Tag) → IsUser tag → tag_text tag ≡ codes "user:" ++ user_rest tag
user_text UserObj v = refl
user_text (User n) v = append_assoc (codes "user:") (decimal n) (codes ":")
user_text GroupObj v = absurd v
user_text (Group n) v = absurd v
user_text Mask v = absurd v
user_text Other v = absurd v

-- the text of a tag of groups is its word and the rest
group_text : (tag : Tag) → IsGroup tag → tag_text tag ≡ codes "group:" ++ group_rest tag
group_text UserObj v = absurd v
group_text (User n) v = absurd v
group_text GroupObj v = refl
group_text (Group n) v = append_assoc (codes "group:") (decimal n) (codes ":")
group_text Mask v = absurd v
group_text Other v = absurd v

-- the reader of tags of users
user_reads : Reads IsUser tag_text (λ bytes. word_at (codes "user:") bytes >>= λ rest. qualifier_at rest >>= λ uid. Ok (user_tag uid.0, uid.1))
user_reads =
    word_then_reads (codes "user:") (word_at (codes "user:")) user_rest (λ rest. qualifier_at rest >>= λ uid. Ok (user_tag uid.0, uid.1)) IsUser tag_text
    (word_reads (codes "user:")) user_rest_reads user_text (UserObj, tt)

-- the reader of tags of groups
group_reads : Reads IsGroup tag_text (λ bytes. word_at (codes "group:") bytes >>= λ rest. qualifier_at rest >>= λ gid. Ok (group_tag gid.0, gid.1))
group_reads =
    word_then_reads (codes "group:") (word_at (codes "group:")) group_rest (λ rest. qualifier_at rest >>= λ gid. Ok (group_tag gid.0, gid.1)) IsGroup tag_text
    (word_reads (codes "group:")) group_rest_reads group_text (GroupObj, tt)

-- a tag that is a word alone
alone_reads : (word : List ℕ) (tag : Tag) → tag_text tag ≡ word → Reads (λ t. t ≡ tag) tag_text (λ bytes. word_at word bytes >>= λ rest. Ok (tag, rest))
alone_reads word tag is = word_then_reads word (word_at word) (λ _. []) (λ rest. Ok (tag, rest)) (λ t. t ≡ tag) tag_text
    (word_reads word) (done_reads tag) (λ t same. ap tag_text same ∙ is ∙ sym (append-nil word)) (tag, refl)

-- the first byte of a tag's text tells its kind
starts_user : (tag : Tag) (rest : List ℕ) → IsUser tag → begins_as (codes "user:") (tag_text tag ++ rest) ≡ true
starts_user tag rest v = rw (user_text tag v) refl

-- a tag of groups starts with g
starts_group : (tag : Tag) (rest : List ℕ) → IsGroup tag → begins_as (codes "group:") (tag_text tag ++ rest) ≡ true
starts_group tag rest v = rw (group_text tag v) refl

-- the mask or other
abbrev pub IsLast : Tag → Type 0
IsLast tag = (tag ≡ Mask) ⊎ ((tag ≡ Other) ⊎ ⊥)

-- the mask and other start with their own letters
last_differs : (word : List ℕ) → begins_as word (codes "mask::") ≡ false → begins_as word (codes "other::") ≡ false → (tag : Tag) (rest : List ℕ) → IsLast tag
    → begins_as word (tag_text tag ++ rest) ≡ false
last_differs [] mask other tag rest v = refl
last_differs (b ∷ word) mask other tag rest v =
    elim v [
      | inl is ↦ rw is mask
      | inr v ↦ elim v [ inl is ↦ rw is other | inr none ↦ absurd none ]
    ]

-- each tag that fits is of one kind
tag_kinds : (tag : Tag) → FitsTag tag → IsUser tag ⊎ (IsGroup tag ⊎ IsLast tag)
tag_kinds UserObj fits = inl tt
tag_kinds (User n) fits = inl fits
tag_kinds GroupObj fits = inr (inl tt)
tag_kinds (Group n) fits = inr (inl fits)
tag_kinds Mask fits = inr (inr (inl refl))
tag_kinds Other fits = inr (inr (inr (inl refl)))

-- a tag of users fits
user_fits : (tag : Tag) → IsUser tag → FitsTag tag
user_fits UserObj v = omega arith
user_fits (User n) v = v
user_fits GroupObj v = absurd v
user_fits (Group n) v = absurd v
user_fits Mask v = absurd v
user_fits Other v = absurd v

-- a tag of groups fits
group_fits : (tag : Tag) → IsGroup tag → FitsTag tag
group_fits UserObj v = absurd v
group_fits (User n) v = absurd v
group_fits GroupObj v = omega arith
group_fits (Group n) v = v
group_fits Mask v = absurd v
group_fits Other v = absurd v

-- the mask and other fit
last_fits : (tag : Tag) → IsLast tag → FitsTag tag
last_fits tag v =
    elim v [
      | inl is ↦ subst FitsTag (sym is) (omega arith)
      | inr v ↦ elim v [ inl is ↦ subst FitsTag (sym is) (omega arith) | inr none ↦ absurd none ]
    ]

-- a tag of one of the kinds fits
kinds_fit : (tag : Tag) → IsUser tag ⊎ (IsGroup tag ⊎ IsLast tag) → FitsTag tag
kinds_fit tag v =
    elim v [
      | inl user ↦ user_fits tag user
      | inr v ↦ elim v [ inl group ↦ group_fits tag group | inr last ↦ last_fits tag last ]
    ]

-- the choices, from the last to the first
abbrev pub other_at : List ℕ → Result (Tag × List ℕ) Stop
other_at bytes = cond (begins_as (codes "other::") bytes) (word_at (codes "other::") bytes >>= λ rest. Ok (Other, rest)) (Err (stop_at bytes))

-- the mask, or other
abbrev pub last_at : List ℕ → Result (Tag × List ℕ) Stop
last_at bytes = cond (begins_as (codes "mask::") bytes) (word_at (codes "mask::") bytes >>= λ rest. Ok (Mask, rest)) (other_at bytes)

-- a tag of groups, or the mask or other
abbrev pub group_at : List ℕ → Result (Tag × List ℕ) Stop
group_at bytes =
    cond (begins_as (codes "group:") bytes) (word_at (codes "group:") bytes >>= λ rest. qualifier_at rest >>= λ gid. Ok (group_tag gid.0, gid.1))
    (last_at bytes)

-- the reader of other
other_reads : Reads (λ tag. (tag ≡ Other) ⊎ ⊥) tag_text other_at
other_reads =
    choice_reads (codes "other::") tag_text (λ tag. tag ≡ Other) (λ _. ⊥) (λ bytes. word_at (codes "other::") bytes >>= λ rest. Ok (Other, rest))
    (λ bytes. Err (stop_at bytes))
    (alone_reads (codes "other::") Other refl) (none_reads tag_text) (λ tag rest is. rw is refl) (λ tag rest none. absurd none)

-- the reader of the mask and other
last_reads : Reads IsLast tag_text last_at
last_reads =
    choice_reads (codes "mask::") tag_text (λ tag. tag ≡ Mask) (λ tag. (tag ≡ Other) ⊎ ⊥) (λ bytes. word_at (codes "mask::") bytes >>= λ rest. Ok (Mask, rest))
    other_at
    (alone_reads (codes "mask::") Mask refl) other_reads (λ tag rest is. rw is refl) (λ tag rest v. elim v [ inl is ↦ rw is refl | inr none ↦ absurd none ])

-- the reader of all but tags of users
group_or_last_reads : Reads (λ tag. IsGroup tag ⊎ IsLast tag) tag_text group_at
group_or_last_reads =
    choice_reads (codes "group:") tag_text IsGroup IsLast
    (λ bytes. word_at (codes "group:") bytes >>= λ rest. qualifier_at rest >>= λ gid. Ok (group_tag gid.0, gid.1)) last_at
    group_reads last_reads starts_group (λ tag rest v. last_differs (codes "group:") refl refl tag rest v)

-- the reader of tags, by their kinds
any_tag_reads : Reads (λ tag. IsUser tag ⊎ (IsGroup tag ⊎ IsLast tag)) tag_text tag_at
unfolding tag_at
any_tag_reads =
    choice_reads (codes "user:") tag_text IsUser (λ tag. IsGroup tag ⊎ IsLast tag)
    (λ bytes. word_at (codes "user:") bytes >>= λ rest. qualifier_at rest >>= λ uid. Ok (user_tag uid.0, uid.1)) group_at
    user_reads group_or_last_reads starts_user
    (λ tag rest v. elim v [ inl group ↦ rw (group_text tag group) refl | inr last ↦ last_differs (codes "user:") refl refl tag rest last ])

-- the reader of tags
pub tag_reads : Reads FitsTag tag_text tag_at
tag_reads = same_values (λ tag. IsUser tag ⊎ (IsGroup tag ⊎ IsLast tag)) FitsTag tag_text tag_at kinds_fit tag_kinds any_tag_reads

-- ---- permissions

-- a letter where the bit is set, and else a dash
abbrev pub letter_text : ℕ → Bool → List ℕ
letter_text c set = cond set c 45 ∷ []

-- each value is one
abbrev pub Any : {A : Type 0} → A → Type 0
Any _ = Unit {0}

-- what is read is spelled so
letter_found : (c : ℕ) (bytes : List ℕ) (set : Bool) (rest : List ℕ) → letter_at c bytes ≡ Ok (set, rest) → (bytes ≡ letter_text c set ++ rest) × Any set
letter_found c [] set rest e = absurd cc
letter_found c (b ∷ bytes) set rest e =
    elim (cases_Bool (eqb b c)) [
      | inl is_set ↦
          let is : ◌≡◌ {A = Result (Bool × List ℕ) Stop} (Ok (true, bytes)) (Ok (set, rest)) = rw is_set at e in
          let same : ◌≡◌ {A = Bool × List ℕ} (true, bytes) (set, rest) = cc in
          let head = eqb-true b c is_set in
          subst (λ (x : Bool × List ℕ). (b ∷ bytes ≡ letter_text c x.0 ++ x.1) × Any x.0) same (ap (λ h. h ∷ bytes) head, tt)
      | inr other ↦ elim (cases_Bool (eqb b 45)) [
        | inl dash ↦
            let is : ◌≡◌ {A = Result (Bool × List ℕ) Stop} (Ok (false, bytes)) (Ok (set, rest)) = rw (other, dash) at e in
            let same : ◌≡◌ {A = Bool × List ℕ} (false, bytes) (set, rest) = cc in
            let head = eqb-true b 45 dash in
            subst (λ (x : Bool × List ℕ). (b ∷ bytes ≡ letter_text c x.0 ++ x.1) × Any x.0) same (ap (λ h. h ∷ bytes) head, tt)
        | inr neither ↦
            let is : ◌≡◌ {A = Result (Bool × List ℕ) Stop} (Err (stop_at (b ∷ bytes))) (Ok (set, rest)) = rw (other, neither) at e in
            absurd cc
      ]
    ]

-- what is spelled so is read
letter_again : (c : ℕ) → eqb 45 c ≡ false → (set : Bool) (rest : List ℕ) → Any set → letter_at c (letter_text c set ++ rest) ≡ Ok (set, rest)
letter_again c no_dash true rest v = rw (eq-eqb c c refl) refl
letter_again c no_dash false rest v = rw no_dash refl

-- where a letter has its fault
letter_fault : (c : ℕ) (bytes : List ℕ) (stop : Stop) → letter_at c bytes ≡ Err stop → FaultIn Any (letter_text c) (letter_at c) bytes stop
letter_fault c [] stop e = record { front = []; back = []; parts = refl; place = cc; begins = inl refl; firm = λ b rest other is. absurd cc }
letter_fault c (b ∷ bytes) stop e =
    elim (cases_Bool (eqb b c)) [
      | inl is_set ↦ let is : ◌≡◌ {A = Result (Bool × List ℕ) Stop} (Ok (true, bytes)) (Err stop) = rw is_set at e in absurd cc
      | inr other ↦ elim (cases_Bool (eqb b 45)) [
        | inl dash ↦ let is : ◌≡◌ {A = Result (Bool × List ℕ) Stop} (Ok (false, bytes)) (Err stop) = rw (other, dash) at e in absurd cc
        | inr neither ↦
            let is : ◌≡◌ {A = Result (Bool × List ℕ) Stop} (Err (stop_at (b ∷ bytes))) (Err stop) = rw (other, neither) at e in
            record {
              front = [];
              back = b ∷ bytes;
              parts = refl;
              place = cc;
              begins = inl refl;
              firm = λ d rest more same.
                  let head : b ≡ d = cc in
                  subst (λ x. letter_at c (x ∷ more) ≡ Err (stop_at (x ∷ more))) head (rw (other, neither) refl);
            }
      ]
    ]

-- the reader of a letter
letter_reads : (c : ℕ) → eqb 45 c ≡ false → Reads Any (letter_text c) (letter_at c)
letter_reads c no_dash = record { takes = letter_found c; again = letter_again c no_dash; fault = letter_fault c }

-- the letters from the last to the first
exec_reads : (r w : Bool)
    → Reads (λ (p : Perm). p ≡ record { read = r; write = w; exec = p.exec }) (λ p. letter_text 120 p.exec)
    (λ bytes. letter_at 120 bytes >>= λ x. Ok (record { read = r; write = w; exec = x.0 }, x.1))
exec_reads r w = both_reads Any (letter_text 120) (letter_at 120)
    (λ x p. p ≡ record { read = r; write = w; exec = x }) (λ _ _. []) (λ x bytes. Ok (record { read = r; write = w; exec = x }, bytes))
    (λ p. p ≡ record { read = r; write = w; exec = p.exec }) (λ p. letter_text 120 p.exec)
    (letter_reads 120 refl) (λ x _. done_reads (record { read = r; write = w; exec = x }))
    (λ x p _ is. let same : p.exec ≡ x = ap (λ (q : Perm). q.exec) is in
    (is ∙ ap (λ b. record { read = r; write = w; exec = b }) (sym same), ap (letter_text 120) same))
    (λ p is. (p.exec, tt, is))
    (λ x _. (record { read = r; write = w; exec = x }, refl))

-- the reader of the second and third letter
write_reads : (r : Bool)
    → Reads (λ (p : Perm). p ≡ record { read = r; write = p.write; exec = p.exec }) (λ p. letter_text 119 p.write ++ letter_text 120 p.exec)
    (λ bytes. letter_at 119 bytes >>= λ w. letter_at 120 w.1 >>= λ x. Ok (record { read = r; write = w.0; exec = x.0 }, x.1))
write_reads r = both_reads Any (letter_text 119) (letter_at 119)
    (λ w p. p ≡ record { read = r; write = w; exec = p.exec }) (λ w p. letter_text 120 p.exec)
    (λ w bytes. letter_at 120 bytes >>= λ x. Ok (record { read = r; write = w; exec = x.0 }, x.1))
    (λ p. p ≡ record { read = r; write = p.write; exec = p.exec }) (λ p. letter_text 119 p.write ++ letter_text 120 p.exec)
    (letter_reads 119 refl) (λ w _. exec_reads r w)
    (λ w p _ is. let same : p.write ≡ w = ap (λ (q : Perm). q.write) is in
    (is ∙ ap (λ b. record { read = r; write = b; exec = p.exec }) (sym same), ap (λ b. letter_text 119 b ++ letter_text 120 p.exec) same))
    (λ p is. (p.write, tt, is))
    (λ w _. (record { read = r; write = w; exec = false }, refl))

-- the reader of permissions
pub perm_reads : Reads Any perm_text perm_at
unfolding perm_at
perm_reads = both_reads Any (letter_text 114) (letter_at 114)
    (λ r p. p ≡ record { read = r; write = p.write; exec = p.exec }) (λ r p. letter_text 119 p.write ++ letter_text 120 p.exec)
    (λ r bytes. letter_at 119 bytes >>= λ w. letter_at 120 w.1 >>= λ x. Ok (record { read = r; write = w.0; exec = x.0 }, x.1))
    Any perm_text
    (letter_reads 114 refl) (λ r _. write_reads r)
    (λ r p _ is. let same : p.read ≡ r = ap (λ (q : Perm). q.read) is in
    (tt, ap (λ b. letter_text 114 b ++ letter_text 119 p.write ++ letter_text 120 p.exec) same))
    (λ p _. (p.read, tt, refl))
    (λ r _. (record { read = r; write = false; exec = false }, refl))

-- ---- entries

-- the reader of what follows a tag
after_tag_reads : (tag : Tag)
    → Reads (λ (e : Entry). e.tag ≡ tag) (λ e. perm_text e.perm) (λ bytes. perm_at bytes >>= λ perm. Ok (record { tag = tag; perm = perm.0 }, perm.1))
after_tag_reads tag = both_reads Any perm_text perm_at
    (λ perm e. e ≡ record { tag = tag; perm = perm }) (λ _ _. []) (λ perm bytes. Ok (record { tag = tag; perm = perm }, bytes))
    (λ e. e.tag ≡ tag) (λ e. perm_text e.perm)
    perm_reads (λ perm _. done_reads (record { tag = tag; perm = perm }))
    (λ perm e _ is. (ap (λ (f : Entry). f.tag) is, ap (λ (f : Entry). perm_text f.perm) is))
    (λ e is. (e.perm, tt, ap (λ t. record { tag = t; perm = e.perm }) is))
    (λ perm _. (record { tag = tag; perm = perm }, refl))

-- the reader of entries
pub entry_reads : Reads Fits entry_text entry_at
unfolding entry_at
entry_reads = both_reads FitsTag tag_text tag_at
    (λ tag e. e.tag ≡ tag) (λ tag e. perm_text e.perm) (λ tag bytes. perm_at bytes >>= λ perm. Ok (record { tag = tag; perm = perm.0 }, perm.1))
    Fits entry_text
    tag_reads (λ tag _. after_tag_reads tag)
    (λ tag e fits is. (subst FitsTag (sym is) fits, ap (λ t. tag_text t ++ perm_text e.perm) is))
    (λ e fits. (e.tag, fits, refl))
    (λ tag _. (record { tag = tag; perm = record { read = false; write = false; exec = false } }, refl))
