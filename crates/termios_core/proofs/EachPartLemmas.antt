-- Parts that are read one after the other.
use Rattle.std.proofs.Common.{◌≡◌, ℕ, zero, suc, ◌<◌, ◌≤◌, true, List, [], ◌∷◌, ◌++◌, length, map, get_or, Option, Some, None, option_map, refl, sym, ap, subst, ◌∙◌, arith}
use Rattle.std.specs.List.{AllByRecursion}
use Rattle.std.specs.Prelude.{IfSome, option_and_then}
use Rattle.termios_core.specs.declared.flags.Flag.{Flag}
use Rattle.termios_core.specs.declared.flags.Flags.{Flags}
use Rattle.termios_core.specs.Flags.{flags_of, with_flag}
use Rattle.termios_core.specs.Reading.{each, flag_of}
use Rattle.termios_core.proofs.CaseLemmas.{some_of_map, if_some}
use Rattle.termios_core.proofs.FlagSetLemmas.{flags_of-push}

-- a first value and others
pub record Splits {X : Type 0} (first : Option X) (others : Option (List X)) (all : List X) : Type 0 where
  pub head : X
  pub tail : List X
  pub first_is : first ≡ Some head
  pub others_are : others ≡ Some tail
  pub all_are : all ≡ head ∷ tail

splits : {X : Type 0} (first : Option X) (others : Option (List X)) (all : List X) → option_and_then (λ x. option_map (λ xs. x ∷ xs) others) first ≡ Some all
    → Splits first others all
splits None others all e = absurd cc
splits (Some x) None all e = absurd cc
splits (Some x) (Some xs) all e = record { head = x; tail = xs; first_is = refl; others_are = refl; all_are = cc }

fails : {X Y : Type 0} (o : Option X) → option_and_then (λ x. option_map (λ (ys : List Y). ys) None) o ≡ None
fails None = refl
fails (Some x) = refl

module _ {X : Type 0} (read : List ℕ → Option X) where
  -- the first part is read, and the others are
  pub each-cons : (part : List ℕ) (parts : List (List ℕ)) (xs : List X) → each read (part ∷ parts) ≡ Some xs → Splits (read part) (each read parts) xs
  each-cons part parts xs e = splits (read part) (each read parts) xs e

  -- the parts are the texts of what is read
  pub each_is : (show : X → List ℕ) → ((part : List ℕ) (x : X) → read part ≡ Some x → part ≡ show x) → (parts : List (List ℕ)) (xs : List X)
      → each read parts ≡ Some xs → parts ≡ map show xs
  each_is show one [] xs e =
      let nil : [] ≡ xs = cc in
      ap (map show) nil
  each_is show one (p ∷ parts) xs e =
      let s = each-cons p parts xs e in
      rw s.all_are
      (ap (λ (q : List ℕ). q ∷ parts) (one p s.head s.first_is) ∙ ap (λ (qs : List (List ℕ)). show s.head ∷ qs) (each_is show one parts s.tail s.others_are))

  -- what holds of each value that is read holds of all
  pub each_all : (P : X → Type 0) → ((part : List ℕ) (x : X) → read part ≡ Some x → P x) → (parts : List (List ℕ)) (xs : List X) → each read parts ≡ Some xs
      → AllByRecursion P xs
  each_all P one [] xs e =
      let nil : [] ≡ xs = cc in
      subst (AllByRecursion P) nil tt
  each_all P one (p ∷ parts) xs e =
      let s = each-cons p parts xs e in
      subst (AllByRecursion P) (sym s.all_are) (one p s.head s.first_is, each_all P one parts s.tail s.others_are)

  -- values whose texts are read again, one by one, are read again
  pub each_again : (show : X → List ℕ) (P : X → Type 0) → ((x : X) → P x → read (show x) ≡ Some x) → (xs : List X) → AllByRecursion P xs
      → each read (map show xs) ≡ Some xs
  each_again show P one [] h = refl
  each_again show P one (x ∷ xs) h = rw (one x h.0, each_again show P one xs h.1) refl

  -- the parts are read, and then one more
  pub each-push : (parts : List (List ℕ)) (xs : List X) (part : List ℕ) (x : X) → each read parts ≡ Some xs → read part ≡ Some x
      → each read (parts ++ part ∷ []) ≡ Some (xs ++ x ∷ [])
  each-push [] xs part x e h =
      let nil : [] ≡ xs = cc in
      rw h (ap (λ (ys : List X). Some (ys ++ x ∷ [])) nil)
  each-push (p ∷ parts) xs part x e h =
      let s = each-cons p parts xs e in
      let more = each-push parts s.tail part x s.others_are h in
      rw (s.first_is, more) (ap (λ (ys : List X). Some (ys ++ x ∷ [])) (sym s.all_are))

  -- a part is not read, so they are not
  each-bad : (parts : List (List ℕ)) (i : ℕ) (d : List ℕ) → i < length parts → read (get_or parts i d) ≡ None → each read parts ≡ None
  each-bad [] i d h bad = absurd (omega arith)
  each-bad (p ∷ parts) zero d h bad = rw bad refl
  each-bad (p ∷ parts) (suc i) d h bad =
      let none = each-bad parts i d (omega arith) bad in
      rw none (fails (read p))

  -- the same, of a part that a loop comes to
  pub each-bad_turn : (parts : List (List ℕ)) (i : ℕ) (part : List ℕ) → (i < length parts) × (part ≡ get_or parts i part) → read part ≡ None
      → each read parts ≡ None
  each-bad_turn parts i part turn bad = each-bad parts i part turn.0 (ap read (sym turn.1) ∙ bad)

  -- there are as many values as parts
  each-length : (parts : List (List ℕ)) (xs : List X) → each read parts ≡ Some xs → length xs ≡ length parts
  each-length [] xs e =
      let nil : [] ≡ xs = cc in
      sym (ap length nil)
  each-length (p ∷ parts) xs e =
      let s = each-cons p parts xs e in
      ap length s.all_are ∙ ap suc (each-length parts s.tail s.others_are)

  -- where fewer parts give n values, all of them give more
  pub each-more : (all parts : List (List ℕ)) (n : ℕ) (xs : List X) → each read parts ≡ Some xs → n ≤ length xs → length parts < length all
      → IfSome (each read all) (λ ys. n < length ys)
  each-more all parts n xs e long more = if_some (each read all) _ (λ ys given. omega (arith, each-length parts xs e, each-length all ys given))

-- the flags of the words so far are on, and then that of one more
pub flags_of-each-push : (words : List (List ℕ)) (flags : Flags) (word : List ℕ) (flag : Flag) → option_map flags_of (each flag_of words) ≡ Some flags
    → flag_of word ≡ Some flag → option_map flags_of (each flag_of (words ++ word ∷ [])) ≡ Some (with_flag flags flag true)
flags_of-each-push words flags word flag e h =
    let so_far = some_of_map flags_of (each flag_of words) flags e in
    let more : each flag_of (words ++ word ∷ []) ≡ Some (so_far.0 ++ flag ∷ []) = each-push flag_of words so_far.0 word flag so_far.1 h in
    let same : flags_of (so_far.0 ++ flag ∷ []) ≡ with_flag flags flag true =
    flags_of-push so_far.0 flag ∙ ap (λ (f : Flags). with_flag f flag true) (sym so_far.2) in
    ap (option_map flags_of) more ∙ ap (λ (f : Flags). Some f) same
