-- The lines of an input queue, read over its pool.
use Rattle.std.proofs.Common.{◌≡◌, ℕ, zero, ◌+◌, ◌-◌, ◌<◌, ◌≤◌, Bool, true, false, not, List, [], ◌∷◌, ◌++◌, length, min, sym, refl, ap, ◌∙◌, arith}
use Rattle.std.proofs.Common.{length-append, inl, inr}
use Rattle.std.specs.Prelude.{◌↔◌, ◌⊎◌, if◌then◌else◌, nat_lt, option_to_list, Option, Some, None}
use Rattle.std.specs.List.{zip}
use Rattle.std.specs.Option.{option_zip}
use Rattle.std.proofs.lemmas.Slice.Zip.{length-zip}
use Rattle.std.proofs.lemmas.Bool.Decides.{nat_tests}
use Rattle.block_pool.specs.Pool.{PoolState}
use Rattle.block_pool.specs.Chain.{ChainState, holds}
use Rattle.block_pool.proofs.CircleLemmas.{length-holds}
use Rattle.line_disc.specs.Discipline.{Input, no_input, places, all_cells}
use Rattle.line_disc.specs.Transfers.{has_none, as_line}
use Rattle.line_disc.specs.declared.place.PlaceKind.{PlaceKind}
use Rattle.line_disc.specs.declared.place.PlaceKind.TheVariants.{Byte, LineEnd, FileEnd}
use Rattle.line_disc.specs.Places.{InputState, IsWholeInput, with_back, lines_of, all_bytes, current_places, current_behind, places_in, input_of, walk}
use Rattle.line_disc.specs.Places.{begins_with_mark}
use Rattle.line_disc.proofs.LineLemmas.{zip_push, lines_of-push, lines_of-bytes, lines_of-ended, lines_of-kept, has_none-lines_of, length-current}
use Rattle.line_disc.proofs.LineLemmas.{places-lines_of, all_bytes-push, current_places-push, current_places-all, current_places-le, current_places-less}
use Rattle.line_disc.proofs.LineLemmas.{ReadsLine, walk_line, ReadsBytes, walk_bytes, walk_mark, walk_no_mark, turned_round, turned_round_whole}

-- what contracts see of an input queue with this chain and these kinds
abbrev pub input_state : ChainState → List PlaceKind → InputState
input_state chain kinds = record { chain = chain; kinds = kinds }

-- an input queue has a byte for each place
pub length-bytes : (pool : PoolState) (s : InputState) → s.chain.count ≡ length s.kinds → length s.kinds ≡ length (holds pool s.chain)
length-bytes pool s many = sym many ∙ sym (length-holds pool s.chain)

pub length-places_in : (pool : PoolState) (s : InputState) → s.chain.count ≡ length s.kinds → length (places_in pool s) ≡ length s.kinds
unfolding places_in
length-places_in pool s many = omega (arith, length-zip s.kinds (holds pool s.chain), length-bytes pool s many)

pub has_none-input_of : (pool : PoolState) (s : InputState) → s.chain.count ≡ length s.kinds → has_none (input_of pool s).ready ≡ all_bytes s.kinds
unfolding input_of places_in
has_none-input_of pool s many = has_none-lines_of s.kinds (holds pool s.chain) (length-bytes pool s many)

pub length-current_of : (pool : PoolState) (s : InputState) → s.chain.count ≡ length s.kinds → length (input_of pool s).current ≡ current_places s.kinds
unfolding input_of places_in
length-current_of pool s many = length-current s.kinds (holds pool s.chain) (length-bytes pool s many)

pub places-input_of : (pool : PoolState) (s : InputState) → s.chain.count ≡ length s.kinds → places (input_of pool s) ≡ length s.kinds
unfolding input_of
places-input_of pool s many = places-lines_of (places_in pool s) ∙ length-places_in pool s many

pub input_of-none : (pool : PoolState) (s : InputState) → s.kinds ≡ [] → input_of pool s ≡ no_input
unfolding input_of places_in
input_of-none pool s none = rw none refl

pub input_of-bytes : (pool : PoolState) (s : InputState) → s.chain.count ≡ length s.kinds → all_bytes s.kinds ≡ true
    → input_of pool s ≡ record { ready = []; current = holds pool s.chain }
unfolding input_of places_in
input_of-bytes pool s many all = lines_of-bytes s.kinds (holds pool s.chain) (length-bytes pool s many) all

-- whether a line is ready, by how many places the current line has
less_where : (test : Bool) (n m : ℕ) → (test ≡ true → n ≡ m) → (test ≡ false → n < m) → nat_lt n m ≡ not test
less_where true n m same less = let e = same refl in grind (arith, nat_tests)
less_where false n m same less = let l = less refl in grind (arith, nat_tests)

pub has_line_where : (ks : List PlaceKind) → nat_lt (current_places ks) (length ks) ≡ not (all_bytes ks)
has_line_where ks = less_where (all_bytes ks) (current_places ks) (length ks) (current_places-all ks) (current_places-less ks)

-- One place more.

pub places_in-push : (old new : PoolState) (s t : InputState) (k : PlaceKind) (b : ℕ) → s.chain.count ≡ length s.kinds → t.kinds ≡ s.kinds ++ k ∷ []
    → holds new t.chain ≡ holds old s.chain ++ b ∷ [] → places_in new t ≡ places_in old s ++ (k, b) ∷ []
unfolding places_in
places_in-push old new s t k b many kinds held = rw (kinds, held) (zip_push s.kinds (holds old s.chain) k b (length-bytes old s many))

pub input_of-push : (old new : PoolState) (s t : InputState) (k : PlaceKind) (b : ℕ) → places_in new t ≡ places_in old s ++ (k, b) ∷ []
    → input_of new t ≡ with_back k b (input_of old s)
unfolding input_of
input_of-push old new s t k b more = ap lines_of more ∙ lines_of-push (places_in old s) k b

pub whole-push : (s t : InputState) (k : PlaceKind) (current : ℕ) → IsWholeInput s current → length s.kinds < 1024 → t.chain.blocks ≡ s.chain.blocks
    → t.chain.count ≡ s.chain.count + 1 → t.kinds ≡ s.kinds ++ k ∷ [] → IsWholeInput t (current_behind k current)
whole-push s t k current whole room blocks count kinds =
    let more = ap (λ (ks : List PlaceKind). length ks) kinds in
    let one = length-append s.kinds (k ∷ []) in
    record {
      blocks = ap length blocks ∙ whole.blocks;
      count = omega (arith, count, more, one, whole.count);
      most = omega (arith, more, one, room);
      current = ap (current_behind k) whole.current ∙ sym (current_places-push s.kinds k) ∙ sym (ap current_places kinds);
    }

-- The first place.

-- what a pop from the front says of the kinds and of the chain
pub record PopsFront (pool : PoolState) (s t : InputState) (k : Option PlaceKind) (b : Option ℕ) : Type 0 where
  pub kinds : s.kinds ≡ option_to_list k ++ t.kinds
  pub no_kind : (k ≡ None) ↔ (s.kinds ≡ [])
  pub held : holds pool s.chain ≡ option_to_list b ++ holds pool t.chain
  pub count : s.chain.count ≡ t.chain.count + length (option_to_list b)
  pub blocks : t.chain.blocks ≡ s.chain.blocks

length-front : {A : Type 0} (o : Option A) (xs : List A) → length (option_to_list o ++ xs) ≡ length (option_to_list o) + length xs
length-front o xs = length-append (option_to_list o) xs

-- both are there, or neither
paired : (pool : PoolState) (s t : InputState) (k : Option PlaceKind) (b : Option ℕ) → s.chain.count ≡ length s.kinds → PopsFront pool s t k b
    → (b ≡ None) ↔ (holds pool s.chain ≡ [])
    → ((k ≡ None) × (b ≡ None)) ⊎ ((kind : PlaceKind) × (byte : ℕ) × (k ≡ Some kind) × (b ≡ Some byte))
paired pool s t None None many pops no_byte = inl (refl, refl)
paired pool s t (Some kind) (Some byte) many pops no_byte = inr (kind, byte, refl, refl)
paired pool s t None (Some byte) many pops no_byte =
    let none = ap (λ (ks : List PlaceKind). length ks) (pops.no_kind.0 refl) in
    let held = ap (λ (bs : List ℕ). length bs) pops.held in
    absurd (omega (arith, none, held, length-bytes pool s many))
paired pool s t (Some kind) None many pops no_byte =
    let none = ap (λ (bs : List ℕ). length bs) (no_byte.0 refl) in
    let kinds = ap (λ (ks : List PlaceKind). length ks) pops.kinds in
    absurd (omega (arith, none, kinds, length-bytes pool s many))

-- what is left is whole
byte_current : (all : Bool) (n m : ℕ) → (all ≡ true → n ≡ m) → n ≤ m → min (if all then n + 1 else n) m ≡ n
byte_current true n m same below = let e = same refl in omega (arith, e)
byte_current false n m same below = omega (arith, below)

rest_current : (k : PlaceKind) (ks : List PlaceKind) → min (current_places (k ∷ ks)) (length ks) ≡ current_places ks
rest_current Byte ks = byte_current (all_bytes ks) (current_places ks) (length ks) (current_places-all ks) (current_places-le ks)
rest_current LineEnd ks = omega (arith, current_places-le ks)
rest_current FileEnd ks = omega (arith, current_places-le ks)

pub whole-pop : (pool : PoolState) (s t : InputState) (k : Option PlaceKind) (b : Option ℕ) (current : ℕ) → IsWholeInput s current → PopsFront pool s t k b
    → (b ≡ None) ↔ (holds pool s.chain ≡ []) → IsWholeInput t (min current t.chain.count)
whole-pop pool s t k b current whole pops no_byte = elim (paired pool s t k b whole.count pops no_byte) [
  | inl none ↦
      let same : s.kinds ≡ t.kinds = pops.kinds ∙ ap (λ (o : Option PlaceKind). option_to_list o ++ t.kinds) none.0 in
      let count : s.chain.count ≡ t.chain.count = pops.count ∙ ap (λ (o : Option ℕ). t.chain.count + length (option_to_list o)) none.1 ∙ omega arith in
      let many = ap (λ (ks : List PlaceKind). length ks) same in
      let places = ap current_places same in
      record {
        blocks = ap length pops.blocks ∙ whole.blocks;
        count = omega (arith, many, count, whole.count);
        most = omega (arith, many, whole.most);
        current = omega (arith, places, count, whole.current, whole.count, current_places-le s.kinds);
      }
  | inr some ↦
      let kind : PlaceKind = some.0 in
      let kinds : s.kinds ≡ some.0 ∷ t.kinds = pops.kinds ∙ ap (λ (o : Option PlaceKind). option_to_list o ++ t.kinds) some.2 in
      let count : s.chain.count ≡ t.chain.count + 1 = pops.count ∙ ap (λ (o : Option ℕ). t.chain.count + length (option_to_list o)) some.3 ∙ omega arith in
      let many : length s.kinds ≡ length t.kinds + 1 = ap (λ (ks : List PlaceKind). length ks) kinds ∙ omega arith in
      let fits : t.chain.count ≡ length t.kinds = omega (arith, many, count, whole.count) in
      record {
        blocks = ap length pops.blocks ∙ whole.blocks;
        count = fits;
        most = omega (arith, many, whole.most);
        current =
            ap (λ (n : ℕ). min n t.chain.count) (whole.current ∙ ap current_places kinds) ∙ ap (λ (n : ℕ). min (current_places (some.0 ∷ t.kinds)) n) fits
            ∙ rest_current some.0 t.kinds;
      }
]

pub places_in-pop : (pool : PoolState) (s t : InputState) (k : Option PlaceKind) (b : Option ℕ) → s.chain.count ≡ length s.kinds → PopsFront pool s t k b
    → (b ≡ None) ↔ (holds pool s.chain ≡ []) → places_in pool s ≡ option_to_list (option_zip k b) ++ places_in pool t
unfolding places_in
places_in-pop pool s t k b many pops no_byte = elim (paired pool s t k b many pops no_byte) [
  | inl none ↦ rw (pops.kinds, pops.held, none.0, none.1) refl
  | inr some ↦ rw (pops.kinds, pops.held, some.2, some.3) refl
]

pub none_in-pop : (pool : PoolState) (s t : InputState) (k : Option PlaceKind) (b : Option ℕ) → s.chain.count ≡ length s.kinds → PopsFront pool s t k b
    → (b ≡ None) ↔ (holds pool s.chain ≡ []) → (option_zip k b ≡ None) ↔ (places_in pool s ≡ [])
unfolding places_in
none_in-pop pool s t k b many pops no_byte = elim (paired pool s t k b many pops no_byte) [
  | inl none ↦ (λ e. rw (pops.no_kind.0 none.0) refl, λ e. rw none.0 refl)
  | inr some ↦ (
    λ e. let both : option_zip k b ≡ Some (some.0, some.1) = rw (some.2, some.3) refl in cc,
    λ e. let front : zip s.kinds (holds pool s.chain) ≡ (some.0, some.1) ∷ zip t.kinds (holds pool t.chain) = rw (pops.kinds, pops.held, some.2, some.3) refl in
        cc,
  )
]

pub length-pop : (pool : PoolState) (s t : InputState) (k : Option PlaceKind) (b : Option ℕ) → s.chain.count ≡ length s.kinds → PopsFront pool s t k b
    → (b ≡ None) ↔ (holds pool s.chain ≡ []) → length s.kinds ≡ length t.kinds + length (option_to_list (option_zip k b))
length-pop pool s t k b many pops no_byte = elim (paired pool s t k b many pops no_byte) [
  | inl none ↦ rw (pops.kinds, none.0) (omega arith)
  | inr some ↦ rw (pops.kinds, some.2, some.3) (omega arith)
]

-- a list without length is empty
pub none_of_length : (xs : List ℕ) → length xs ≡ 0 → xs ≡ []
none_of_length [] none = refl
none_of_length (x ∷ xs) none = absurd (omega (arith, none))

-- a list that ends with a byte is not
pub none_of_some : (xs : List ℕ) (b : Option ℕ) (ys : List ℕ) → (b ≡ None → ⊥) → xs ≡ ys ++ option_to_list b → (b ≡ None) ↔ (xs ≡ [])
none_of_some xs None ys some ends = absurd (some refl)
none_of_some xs (Some b) ys some ends = (
  λ e. absurd (some e),
  λ e. let many = sym (ap (λ (zs : List ℕ). length zs) e) ∙ ap (λ (zs : List ℕ). length zs) ends ∙ length-append ys (b ∷ []) in absurd (omega (arith, many)),
)

-- The last byte of the current line.

-- what a pop from the back says
pub record PopsBack (pool : PoolState) (s t : InputState) (k : Option PlaceKind) (b : Option ℕ) : Type 0 where
  pub kinds : s.kinds ≡ t.kinds ++ option_to_list k
  pub no_kind : (k ≡ None) ↔ (s.kinds ≡ [])
  pub held : holds pool s.chain ≡ holds pool t.chain ++ option_to_list b
  pub no_byte : (b ≡ None) ↔ (holds pool s.chain ≡ [])
  pub count : s.chain.count ≡ t.chain.count + length (option_to_list b)
  pub blocks : t.chain.blocks ≡ s.chain.blocks

-- what it makes of the lines where the current line has a byte
pub record TakesLast (pool : PoolState) (s t : InputState) (b : Option ℕ) (counted : ℕ) : Type 0 where
  pub some : b ≡ None → ⊥
  pub whole : IsWholeInput t (counted - 1)
  pub ready : (input_of pool t).ready ≡ (input_of pool s).ready
  pub current : (input_of pool s).current ≡ (input_of pool t).current ++ option_to_list b
  pub bytes : all_bytes s.kinds ≡ true → all_bytes t.kinds ≡ true

pub takes_last : (pool : PoolState) (s t : InputState) (k : Option PlaceKind) (b : Option ℕ) (counted : ℕ) → IsWholeInput s counted → 0 < counted
    → PopsBack pool s t k b
    → TakesLast pool s t b counted
takes_last pool s t None b counted whole some pops =
    let none = ap current_places (pops.no_kind.0 refl) in absurd (omega (arith, none, whole.current))
takes_last pool s t (Some LineEnd) b counted whole some pops =
    let none = ap current_places pops.kinds ∙ current_places-push t.kinds LineEnd in absurd (omega (arith, none, whole.current))
takes_last pool s t (Some FileEnd) b counted whole some pops =
    let none = ap current_places pops.kinds ∙ current_places-push t.kinds FileEnd in absurd (omega (arith, none, whole.current))
takes_last pool s t (Some Byte) None counted whole some pops =
    let none = ap (λ (bs : List ℕ). length bs) (pops.no_byte.0 refl) in
    absurd (omega (arith, none, length-bytes pool s whole.count, whole.current, current_places-le s.kinds))
takes_last pool s t (Some Byte) (Some b) counted whole some pops =
    let many : length s.kinds ≡ length t.kinds + 1 = ap (λ (ks : List PlaceKind). length ks) pops.kinds ∙ length-append t.kinds (Byte ∷ []) ∙ omega arith in
    let count : s.chain.count ≡ t.chain.count + 1 = pops.count ∙ omega arith in
    let fits : t.chain.count ≡ length t.kinds = omega (arith, many, count, whole.count) in
    let more : places_in pool s ≡ places_in pool t ++ (Byte, b) ∷ [] = places_in-push pool pool t s Byte b fits pops.kinds pops.held in
    let lines = input_of-push pool pool t s Byte b more in
    let places = whole.current ∙ ap current_places pops.kinds ∙ current_places-push t.kinds Byte in
    record {
      some = λ e. cc;
      whole = record {
        blocks = ap length pops.blocks ∙ whole.blocks;
        count = fits;
        most = omega (arith, many, whole.most);
        current = omega (arith, places);
      };
      ready = sym (ap (λ (i : Input ℕ). i.ready) lines);
      current = ap (λ (i : Input ℕ). i.current) lines;
      bytes = λ all. sym (all_bytes-push t.kinds Byte) ∙ sym (ap all_bytes pops.kinds) ∙ all;
    }

-- The current line becomes ready.

pub record EndsCurrent (pool : PoolState) (s t : InputState) : Type 0 where
  pub ready : (input_of pool t).ready ≡ as_line (input_of pool s).current
  pub current : (input_of pool t).current ≡ []

pub ends_current : (pool : PoolState) (s t : InputState) (ks : List PlaceKind) (k : PlaceKind) → s.chain.count ≡ length s.kinds → all_bytes s.kinds ≡ true
    → s.kinds ≡ ks ++ k ∷ [] → t.kinds ≡ ks ++ LineEnd ∷ [] → t.chain ≡ s.chain → EndsCurrent pool s t
unfolding input_of places_in
ends_current pool s t ks LineEnd many all old new chain = let none = sym (all_bytes-push ks LineEnd) ∙ sym (ap all_bytes old) ∙ all in cc
ends_current pool s t ks FileEnd many all old new chain = let none = sym (all_bytes-push ks FileEnd) ∙ sym (ap all_bytes old) ∙ all in cc
ends_current pool s t ks Byte many all old new chain =
    let before : all_bytes ks ≡ true = sym (all_bytes-push ks Byte) ∙ sym (ap all_bytes old) ∙ all in
    let one = ap (λ (xs : List PlaceKind). length xs) old ∙ length-append ks (Byte ∷ []) in
    let held : length (holds pool s.chain) ≡ length ks + 1 = omega (arith, one, length-bytes pool s many) in
    let lines : lines_of (zip t.kinds (holds pool t.chain)) ≡ record { ready = as_line (holds pool s.chain); current = [] } =
    ap (λ (xs : List PlaceKind). lines_of (zip xs (holds pool t.chain))) new ∙ ap (λ (c : ChainState). lines_of (zip (ks ++ LineEnd ∷ []) (holds pool c))) chain
    ∙ lines_of-ended ks (holds pool s.chain) held before in
    let was = lines_of-bytes s.kinds (holds pool s.chain) (length-bytes pool s many) all in
    record {
      ready = ap (λ (i : Input ℕ). i.ready) lines ∙ sym (ap (λ (i : Input ℕ). as_line i.current) was);
      current = ap (λ (i : Input ℕ). i.current) lines;
    }

-- What is read and joined, place by place.

pub reads_line : (pool : PoolState) (s t : InputState) (max : ℕ) (cells : List ℕ) → cells ≡ (walk max (places_in pool s)).0
    → places_in pool t ≡ (walk max (places_in pool s)).1 → has_none (input_of pool s).ready ≡ false → ReadsLine (input_of pool s) max cells (input_of pool t)
unfolding input_of
reads_line pool s t max cells g l some =
    let read = walk_line (places_in pool s) max some in
    record {
      front_is = g ∙ read.front_is;
      ready_is = ap (λ ps. (lines_of ps).ready) l ∙ read.ready_is;
      current_is = ap (λ ps. (lines_of ps).current) l ∙ read.current_is;
    }

pub reads_bytes : (pool : PoolState) (s t : InputState) (max : ℕ) (cells : List ℕ) → cells ≡ (walk max (places_in pool s)).0
    → places_in pool t ≡ (walk max (places_in pool s)).1 → has_none (input_of pool s).ready ≡ true → ReadsBytes (input_of pool s) max cells (input_of pool t)
unfolding input_of
reads_bytes pool s t max cells g l none =
    let read = walk_bytes (places_in pool s) max none in
    record { front_is = g ∙ read.front_is; rest_is = ap lines_of l ∙ read.rest_is }

pub joins : (pool new : PoolState) (s t : InputState) (n : ℕ) → n ≡ length (places_in pool s) → places_in new t ≡ turned_round n (places_in pool s)
    → input_of new t ≡ record { ready = []; current = all_cells (input_of pool s) }
unfolding input_of
joins pool new s t n all turned = ap lines_of (turned ∙ turned_round_whole (places_in pool s) n all) ∙ lines_of-kept (places_in pool s)

-- an end of file in front goes
pub no_mark_in_front : (pool : PoolState) (s : InputState) → s.chain.count ≡ length s.kinds → begins_with_mark s.kinds ≡ false
    → places_in pool s ≡ (walk zero (places_in pool s)).1
unfolding places_in
no_mark_in_front pool s many none = walk_no_mark s.kinds (holds pool s.chain) (length-bytes pool s many) none

pub mark_in_front : (pool : PoolState) (s t : InputState) (p : Option (PlaceKind × ℕ)) → s.chain.count ≡ length s.kinds → begins_with_mark s.kinds ≡ true
    → places_in pool s ≡ option_to_list p ++ places_in pool t → (p ≡ None) ↔ (places_in pool s ≡ []) → places_in pool t ≡ (walk zero (places_in pool s)).1
unfolding places_in
mark_in_front pool s t p many mark pops none = walk_mark s.kinds (holds pool s.chain) (places_in pool t) p (length-bytes pool s many) mark pops none

-- an empty current line stays one
pub ends_none : (pool : PoolState) (s t : InputState) → s.kinds ≡ [] → t.kinds ≡ [] → EndsCurrent pool s t
ends_none pool s t old new = record {
  ready = rw (input_of-none pool s old, input_of-none pool t new) refl;
  current = rw (input_of-none pool t new) refl;
}

pub whole-ended : (s t : InputState) (ks : List PlaceKind) (k : PlaceKind) (counted : ℕ) → IsWholeInput s counted → s.kinds ≡ ks ++ k ∷ []
    → t.kinds ≡ ks ++ LineEnd ∷ [] → t.chain ≡ s.chain → IsWholeInput t 0
whole-ended s t ks k counted whole old new chain =
    let before = ap (λ (xs : List PlaceKind). length xs) old ∙ length-append ks (k ∷ []) in
    let after = ap (λ (xs : List PlaceKind). length xs) new ∙ length-append ks (LineEnd ∷ []) in
    record {
      blocks = ap (λ (x : ChainState). length x.blocks) chain ∙ whole.blocks;
      count = ap (λ (x : ChainState). x.count) chain ∙ whole.count ∙ before ∙ sym after;
      most = omega (arith, before, after, whole.most);
      current = sym (ap current_places new ∙ current_places-push ks LineEnd);
    }

pub ruleset queue = (input_of-none, length-bytes)
