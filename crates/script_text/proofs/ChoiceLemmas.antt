-- What a choice or a step gave.
use Rattle.std.proofs.Common.{◌≡◌, ◌⊎◌, ℕ, Bool, true, false, cond, List, Option, Some, None, refl, inl, inr, option_map, option_and_then}
use Rattle.std.specs.Str.{bytes_eq}
use Rattle.std.proofs.lemmas.Slice.Eq.{bytes_eq-Decides}

-- a test that chose, and which way
pub choice_of : {A : Type 0} (b : Bool) (x y z : A) → cond b x y ≡ z → ((b ≡ true) × (x ≡ z)) ⊎ ((b ≡ false) × (y ≡ z))
choice_of true x y z e = inl (refl, e)
choice_of false x y z e = inr (refl, e)

-- a step that gave a value, and what it was given
pub record Source {A B : Type 0} (f : A → B) (o : Option A) (y : B) : Type 0 where
  pub value : A
  pub was : o ≡ Some value
  pub gives : f value ≡ y

pub map_source : {A B : Type 0} (f : A → B) (o : Option A) (y : B) → option_map f o ≡ Some y → Source f o y
map_source f None y e = absurd cc
map_source f (Some x) y e = record { value = x; was = refl; gives = cc }

pub step_source : {A B : Type 0} (f : A → Option B) (o : Option A) (y : B) → option_and_then f o ≡ Some y → Source f o (Some y)
step_source f None y e = absurd cc
step_source f (Some x) y e = record { value = x; was = refl; gives = e }

pub same_text : (w name : List ℕ) → bytes_eq w name ≡ true → w ≡ name
same_text w name h = (bytes_eq-Decides w name).0 h

pub text_is : (w name : List ℕ) → w ≡ name → bytes_eq w name ≡ true
text_is w name h = (bytes_eq-Decides w name).1 h
