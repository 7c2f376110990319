-- Origins that agree with the open files that descriptors refer to still do so after an effect that opens, copies, closes or forks.
use Rattle.std.proofs.Common.{◌≡◌, ◌≢◌, inl, inr, ℕ, zero, suc, ◌<◌, Bool, true, false, cond, List, [], ◌∷◌, get_or, set, Option, Some, None, option_map}
use Rattle.std.proofs.Common.{arith, refl, ap, sym, ◌∙◌, subst}
use Rattle.std.specs.Prelude.{◌==◌}
use Rattle.std.proofs.lemmas.Bool.Decides.{nat_tests, eqb_tells}
use Rattle.fd_table.specs.declared.open.Descriptor.{Descriptor}
use Rattle.fd_table.specs.Shared.{Shared, Table, row_of, descriptor_at, put, references, entry_at, file_of, file_at, lowest_entry}
use Rattle.fd_table.specs.Shared.{files_after, change_in}
use Rattle.system_model.specs.State.{NamedFile}
use Rattle.system_laws.specs.Origins.{Origins, put_origin}

abbrev pub Named : Type 0
Named = Shared NamedFile

-- ---- entries

-- the file of an entry, if the entry is one of the table's, is there, and was made at this position
abbrev pub IsMade : Option ℕ → List (Option NamedFile) → ℕ → Type 0
IsMade o [] entry = Unit {0}
IsMade o (None ∷ files) zero = ⊥
IsMade o (Some f ∷ files) zero = o ≡ Some f.name.made
IsMade o (f ∷ files) (suc entry) = IsMade o files entry

next-entry : (f : NamedFile) (files : List (Option NamedFile)) → lowest_entry (Some f ∷ files) ≡ suc (lowest_entry files)
next-entry f files = omega arith

pub made-file : (o : Option ℕ) (files : List (Option NamedFile)) (entry : ℕ) (f : NamedFile) → IsMade o files entry → entry_at files entry ≡ Some f
    → o ≡ Some f.name.made
made-file o [] entry f made is = cc
made-file o (None ∷ files) zero f made is = absurd made
made-file o (Some g ∷ files) zero f made is = let same : g ≡ f = cc in made ∙ ap (λ (h : NamedFile). Some h.name.made) same
made-file o (None ∷ files) (suc entry) f made is = made-file o files entry f made is
made-file o (Some g ∷ files) (suc entry) f made is = made-file o files entry f made is

-- a file that is opened leaves the others
pub made-opened : (o : Option ℕ) (files : List (Option NamedFile)) (entry : ℕ) (new : NamedFile) → IsMade o files entry
    → IsMade o (set files (lowest_entry files) (Some new)) entry
made-opened o [] entry new made = tt
made-opened o (None ∷ files) zero new made = absurd made
made-opened o (None ∷ files) (suc entry) new made = made
made-opened o (Some f ∷ files) zero new made = rw (next-entry f files) made
made-opened o (Some f ∷ files) (suc entry) new made = rw (next-entry f files) (made-opened o files entry new made)

pub made-new : (files : List (Option NamedFile)) (new : NamedFile) → IsMade (Some new.name.made) (set files (lowest_entry files) (Some new)) (lowest_entry files)
made-new [] new = tt
made-new (None ∷ files) new = refl
made-new (Some f ∷ files) new = rw (next-entry f files) (made-new files new)

made-emptied : (o : Option ℕ) (files : List (Option NamedFile)) (i entry : ℕ) → i ≢ entry → IsMade o files entry → IsMade o (set files i None) entry
made-emptied o [] i entry apart made = made
made-emptied o (f ∷ files) zero zero apart made = absurd (apart refl)
made-emptied o (None ∷ files) zero (suc entry) apart made = made
made-emptied o (Some f ∷ files) zero (suc entry) apart made = made
made-emptied o (None ∷ files) (suc i) zero apart made = made
made-emptied o (Some f ∷ files) (suc i) zero apart made = made
made-emptied o (None ∷ files) (suc i) (suc entry) apart made = made-emptied o files i entry (λ same. apart (ap suc same)) made
made-emptied o (Some f ∷ files) (suc i) (suc entry) apart made = made-emptied o files i entry (λ same. apart (ap suc same)) made

zero-test : (n : ℕ) → 0 < n → (n == 0) ≡ true → ⊥
zero-test n some is = (let none : n ≡ 0 = grind (arith, nat_tests) in absurd (omega (arith, none, some)))

-- a file to which a number refers stays
pub made-left : (o : Option ℕ) (after : Table) (files : List (Option NamedFile)) (entry : ℕ) (d : Option Descriptor) → 0 < references entry after
    → IsMade o files entry → IsMade o (files_after d after files) entry
made-left o after files entry None some made = made
made-left o after files entry (Some d) some made = by_case (references d.entry after == 0) refl
  where
    by_case : (t : Bool) → (references d.entry after == 0) ≡ t → IsMade o (cond t (set files d.entry None) files) entry
    by_case false is = made
    by_case true is =
        made-emptied o files d.entry entry
        (λ same. zero-test (references d.entry after) (subst (λ n. 0 < references n after) (sym same) some) is) made

made-changed : (o : Option ℕ) (how : NamedFile → NamedFile) → ((f : NamedFile) → (how f).name ≡ f.name) → (files : List (Option NamedFile)) (i entry : ℕ)
    → IsMade o files entry → IsMade o (set files i (option_map how (entry_at files i))) entry
made-changed o how same [] i entry made = made
made-changed o how same (None ∷ files) zero zero made = made
made-changed o how same (Some f ∷ files) zero zero made = rw (same f) made
made-changed o how same (None ∷ files) zero (suc entry) made = made
made-changed o how same (Some f ∷ files) zero (suc entry) made = made
made-changed o how same (None ∷ files) (suc i) zero made = made
made-changed o how same (Some f ∷ files) (suc i) zero made = made
made-changed o how same (None ∷ files) (suc i) (suc entry) made = made-changed o how same files i entry made
made-changed o how same (Some f ∷ files) (suc i) (suc entry) made = made-changed o how same files i entry made

pub made-change_in : (o : Option ℕ) (how : NamedFile → NamedFile) → ((f : NamedFile) → (how f).name ≡ f.name) → (d : Option Descriptor)
    → (files : List (Option NamedFile)) (entry : ℕ) → IsMade o files entry → IsMade o (change_in how d files) entry
made-change_in o how same None files entry made = made
made-change_in o how same (Some d) files entry made = made-changed o how same files d.entry entry made

-- ---- numbers

-- what a number refers to was made at its origin
abbrev pub IsFrom : Option ℕ → List (Option NamedFile) → Option Descriptor → Type 0
IsFrom o files None = Unit {0}
IsFrom o files (Some d) = IsMade o files d.entry

-- so it is of each number of each slot
abbrev pub Agree : Origins → Named → Type 0
Agree o t = (slot fd : ℕ) → IsFrom (o slot fd) t.files (descriptor_at t.table slot fd)

pub agree-file : (o : Origins) (t : Named) (slot fd : ℕ) (f : NamedFile) → Agree o t → file_at t slot fd ≡ Some f → o slot fd ≡ Some f.name.made
agree-file o t slot fd f agree is = by_number (descriptor_at t.table slot fd) (agree slot fd) is
  where
    by_number : (d : Option Descriptor) → IsFrom (o slot fd) t.files d → file_of t.files d ≡ Some f → o slot fd ≡ Some f.name.made
    by_number None from is = cc
    by_number (Some d) from is = made-file (o slot fd) t.files d.entry f from is

-- where an entry of a list is set
pub data AtSet {A : Type 0} (xs : List A) (i j : ℕ) (x d : A) : Type 0 where
  other : i ≢ j → get_or (set xs i x) j d ≡ get_or xs j d → AtSet xs i j x d
  here : i ≡ j → get_or (set xs i x) j d ≡ x → AtSet xs i j x d
  outside : get_or (set xs i x) j d ≡ d → AtSet xs i j x d

pub at-set : {A : Type 0} (xs : List A) (i j : ℕ) (x d : A) → AtSet xs i j x d
at-set [] i j x d = outside refl
at-set (y ∷ ys) zero zero x d = here refl refl
at-set (y ∷ ys) zero (suc j) x d = other (λ same. cc) refl
at-set (y ∷ ys) (suc i) zero x d = other (λ same. cc) refl
at-set (y ∷ ys) (suc i) (suc j) x d =
    elim (at-set ys i j x d) [
      | other apart same ↦ other (λ is. apart (omega (arith, is))) same
      | here is same ↦ here (ap suc is) same
      | outside same ↦ outside same
    ]

-- where a number of a slot is put
pub data AtPut (table : Table) (slot number : ℕ) (what : Option Descriptor) (s n : ℕ) : Type 0 where
  kept : (s ≡ slot → n ≡ number → ⊥) → descriptor_at (put table slot number what) s n ≡ descriptor_at table s n → AtPut table slot number what s n
  given : s ≡ slot → n ≡ number → descriptor_at (put table slot number what) s n ≡ what → AtPut table slot number what s n
  closed : descriptor_at (put table slot number what) s n ≡ None → AtPut table slot number what s n

pub at-put : (table : Table) (slot number : ℕ) (what : Option Descriptor) (s n : ℕ) → AtPut table slot number what s n
at-put table slot number what s n = by_row (at-set table slot s (set (row_of table slot) number what) [])
  where
    row : List (Option Descriptor)
    row = set (row_of table slot) number what

    by_row : AtSet table slot s row [] → AtPut table slot number what s n
    by_row (other apart same) = kept (λ is also. apart (sym is)) (ap (λ (r : List (Option Descriptor)). get_or r n None) same)
    by_row (outside same) = closed (ap (λ (r : List (Option Descriptor)). get_or r n None) same)
    by_row (here is same) = by_number (at-set (row_of table slot) number n what None)
      where
        read : descriptor_at (put table slot number what) s n ≡ get_or row n None
        read = ap (λ (r : List (Option Descriptor)). get_or r n None) same

        by_number : AtSet (row_of table slot) number n what None → AtPut table slot number what s n
        by_number (other apart also) =
            kept (λ one two. apart (sym two)) (read ∙ also ∙ ap (λ k. get_or (row_of table k) n None) is)
        by_number (here two also) = given (sym is) (sym two) (read ∙ also)
        by_number (outside also) = closed (read ∙ also)

-- what has an origin put, and what has none
put-here : (o : Origins) (slot number s n : ℕ) (origin : Option ℕ) → s ≡ slot → n ≡ number → put_origin o slot number origin s n ≡ origin
put-here o slot number s n origin one two =
    elim (eqb_tells s slot) [
      | inl (a, is) ↦ elim (eqb_tells n number) [
        | inl (b, also) ↦ rw (a, b) refl
        | inr (b, isnt) ↦ absurd (isnt two)
      ]
      | inr (a, isnt) ↦ absurd (isnt one)
    ]

put-other : (o : Origins) (slot number s n : ℕ) (origin : Option ℕ) → (s ≡ slot → n ≡ number → ⊥) → put_origin o slot number origin s n ≡ o s n
put-other o slot number s n origin apart =
    elim (eqb_tells s slot) [
      | inl (a, is) ↦ elim (eqb_tells n number) [
        | inl (b, also) ↦ absurd (apart is also)
        | inr (b, isnt) ↦ rw (a, b) refl
      ]
      | inr (a, isnt) ↦ rw a refl
    ]

pub from-same : (o q : Option ℕ) (files : List (Option NamedFile)) (d e : Option Descriptor) → q ≡ o → e ≡ d → IsFrom o files d → IsFrom q files e
from-same o q files d e same is from = rw (same, is) from

-- a number with its origin is put where all others are as before
pub agree-put : (o : Origins) (table : Table) (files : List (Option NamedFile)) (slot number : ℕ) (origin : Option ℕ) (what : Option Descriptor)
    → ((s n : ℕ) → IsFrom (o s n) files (descriptor_at table s n)) → IsFrom origin files what
    → (s n : ℕ) → IsFrom (put_origin o slot number origin s n) files (descriptor_at (put table slot number what) s n)
agree-put o table files slot number origin what agree from s n =
    elim (at-put table slot number what s n) [
      | kept apart same ↦ from-same (o s n) _ files _ _ (put-other o slot number s n origin apart) same (agree s n)
      | given one two same ↦ from-same origin _ files what _ (put-here o slot number s n origin one two) same from
      | closed same ↦ from-same (put_origin o slot number origin s n) _ files None _ refl same tt
    ]
