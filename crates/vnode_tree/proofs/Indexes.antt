-- Places keep their keys and their total through each change, and a search by keys finds what a search of entries finds.
use Rattle.std.proofs.Common.{◌≡◌, ℕ, zero, suc, ◌+◌, ◌<◌, ◌≤◌, Bool, true, false, cond, not, ◌&&◌, ltb, List, [], ◌∷◌, ◌++◌, map, length, set, get_or}
use Rattle.std.proofs.Common.{replicate, Option, Some, None, refl, sym, ap, ap₂, ◌∙◌, arith, eq-eqb}
use Rattle.std.specs.Prelude.{IsSome, is_none, position, sum_by, ◌==◌}
use Rattle.std.specs.List.{position_or_len, zip, filter, range_with_len}
use Rattle.std.specs.Str.{bytes_eq}
use Rattle.std.proofs.lemmas.List.{map-set, length-map, get_or_default}
use Rattle.std.proofs.lemmas.List.Sums.{sum_by-set}
use Rattle.std.proofs.lemmas.List.Folds.{sum_by-replicate}
use Rattle.std.proofs.Math.Seq.{map-set_same}
use Rattle.std.proofs.Math.Path.{fun_ext}
use Rattle.std.proofs.Math.ListN.{get_or-map}
use Rattle.std.proofs.lemmas.Slice.Eq.{bytes_eq-Decides}
use Rattle.std.proofs.lemmas.List.Quantifiers.{position-Some}
use Rattle.vnode_tree.specs.declared.entry.Entry.{Entry}
use Rattle.vnode_tree.specs.declared.key.Key.{Key}
use Rattle.vnode_tree.specs.Links.{entry_at, is_child, is_in}
use Rattle.vnode_tree.specs.Children.{is_inside, children_of}
use Rattle.vnode_tree.specs.Kept.{size_in}
use Rattle.vnode_tree.specs.Keys.{name_sum, key_of, key_in, has_key, is_key_below, is_key_inside, keyed_inside, IsIndexed}
use Rattle.vnode_tree.proofs.Counts.{live_within}
use Rattle.vnode_tree.proofs.Calls.{some_entry}
use Rattle.vnode_tree.proofs.NamesText.{filter_more}

-- a test of each element beside its key, which passes where a test of the element does, passes first at the same place
same_first : {K X : Type 0} (key : X → K) (p : K × X → Bool) (q : X → Bool) → ((x : X) → p (key x, x) ≡ q x) → (xs : List X)
    → position_or_len p (zip (map key xs) xs) ≡ position_or_len q xs
same_first key p q same [] = refl
same_first key p q same (x ∷ xs) = rw (same x) (ap (λ n. cond (not (q x)) (1 + n) 0) (same_first key p q same xs))

same_length : {K X : Type 0} (key : X → K) (xs : List X) → length (zip (map key xs) xs) ≡ length xs
same_length key [] = refl
same_length key (x ∷ xs) = omega (arith, same_length key xs)

pub same_place : {K X : Type 0} (key : X → K) (p : K × X → Bool) (q : X → Bool) → ((x : X) → p (key x, x) ≡ q x) → (xs : List X)
    → position p (zip (map key xs) xs) ≡ position q xs
same_place key p q same xs = ap₂ (λ (i n : ℕ). cond (ltb i n) (Some i) None) (same_first key p q same xs) (same_length key xs)

first_key : {K X : Type 0} (key : X → K) (p : K → Bool) (q : X → Bool) → ((x : X) → p (key x) ≡ q x) → (xs : List X)
    → position_or_len p (map key xs) ≡ position_or_len q xs
first_key key p q same [] = refl
first_key key p q same (x ∷ xs) = rw (same x) (ap (λ n. cond (not (q x)) (1 + n) 0) (first_key key p q same xs))

free_key : (o : Option Entry) → is_none (key_in o) ≡ is_none o
free_key None = refl
free_key (Some entry) = refl

-- the first place without a key is the first without an entry
pub free_place_is : (entries : List (Option Entry)) → position is_none (map key_in entries) ≡ position is_none entries
free_place_is entries =
    ap₂ (λ (i n : ℕ). cond (ltb i n) (Some i) None) (first_key key_in is_none is_none free_key entries) (length-map entries key_in)

nothing : (o : Option Entry) → is_none o ≡ true → o ≡ None
nothing None e = refl
nothing (Some entry) e = absurd cc

-- the first free place has no entry
pub free_at : (entries : List (Option Entry)) (n : ℕ) → Some n ≡ position is_none entries → entry_at entries n ≡ None
free_at entries n found = nothing (entry_at entries n) (position-Some is_none entries n None (sym found)).1

absorbs : (dir key entry : Bool) → (entry ≡ true → key ≡ true) → ((dir && key) && (dir && entry)) ≡ (dir && entry)
absorbs false key entry h = refl
absorbs true true entry h = refl
absorbs true false true h = h refl
absorbs true false false h = refl

child_key : (dir : ℕ) (name : List ℕ) (o : Option Entry) → (has_key (key_of dir name) (key_in o) && is_child dir name o) ≡ is_child dir name o
child_key dir name None = refl
child_key dir name (Some entry) =
    absorbs (entry.dir == dir) (name_sum entry.name == name_sum name) (bytes_eq entry.name name)
    (λ same. eq-eqb (name_sum entry.name) (name_sum name) (ap name_sum ((bytes_eq-Decides entry.name name).0 same)))

-- the node of a name has the key of the name
pub child_place_is : (dir : ℕ) (name : List ℕ) (entries : List (Option Entry))
    → position (λ (p : Option Key × Option Entry). has_key (key_of dir name) p.0 && is_child dir name p.1) (zip (map key_in entries) entries)
    ≡ position (is_child dir name) entries
child_place_is dir name entries =
    same_place key_in (λ (p : Option Key × Option Entry). has_key (key_of dir name) p.0 && is_child dir name p.1) (is_child dir name)
    (child_key dir name) entries

twice : (a b : Bool) → (a && (a && b)) ≡ (a && b)
twice true b = refl
twice false b = refl

in_key : (dir : ℕ) (o : Option Entry) → (is_key_below dir (key_in o) && is_in dir o) ≡ is_in dir o
in_key dir None = refl
in_key dir (Some entry) = twice (entry.dir == dir) (not (length entry.name == 0))

pub first_child_is : (dir : ℕ) (entries : List (Option Entry))
    → position (λ (p : Option Key × Option Entry). is_key_below dir p.0 && is_in dir p.1) (zip (map key_in entries) entries) ≡ position (is_in dir) entries
first_child_is dir entries =
    same_place key_in (λ (p : Option Key × Option Entry). is_key_below dir p.0 && is_in dir p.1) (is_in dir) (in_key dir) entries

inside_key : (dir number : ℕ) (o : Option Entry) → is_key_inside dir number (key_in o) ≡ is_inside dir number o
inside_key dir number None = refl
inside_key dir number (Some entry) = refl

pub below_size : (entries now : List (Option Entry)) (n node : ℕ) → entries ≡ now → IsSome (entry_at now node) → n ≡ node → n < length entries
below_size entries now n node view some same =
    let there = some_entry (entry_at now node) some in
    live_within entries n there.0 (ap (λ es. entry_at es n) view ∙ ap (entry_at now) same ∙ there.1)

-- the nodes in a directory are the places whose keys are of nodes in it
pub children_are : (dir : ℕ) (entries : List (Option Entry)) → keyed_inside (map key_in entries) dir ≡ children_of entries dir
unfolding keyed_inside children_of
children_are dir entries =
    ap (λ size. filter (λ n. is_key_inside dir n (get_or (map key_in entries) n None)) (range_with_len 0 size)) (length-map entries key_in)
    ∙ ap (λ (test : ℕ → Bool). filter test (range_with_len 0 (length entries)))
    (fun_ext (λ n. ap (is_key_inside dir n) (get_or-map key_in entries n None) ∙ inside_key dir n (entry_at entries n)))

-- one place more is looked at
pub keys_more : (dir place : ℕ) (keys : List (Option Key)) (nodes more : List ℕ)
    → nodes ≡ filter (λ n. is_key_inside dir n (get_or keys n None)) (range_with_len 0 place)
    → more ≡ nodes ++ cond (is_key_inside dir place (get_or keys place None)) (place ∷ []) []
    → more ≡ filter (λ n. is_key_inside dir n (get_or keys n None)) (range_with_len 0 (place + 1))
keys_more dir place keys nodes more so_far now =
    now ∙ ap (λ xs. xs ++ cond (is_key_inside dir place (get_or keys place None)) (place ∷ []) []) so_far
    ∙ sym (filter_more (λ n. is_key_inside dir n (get_or keys n None)) place)

pub keys_all : (dir place : ℕ) (keys : List (Option Key)) (nodes : List ℕ) → place ≡ length keys
    → nodes ≡ filter (λ n. is_key_inside dir n (get_or keys n None)) (range_with_len 0 place) → nodes ≡ keyed_inside keys dir
unfolding keyed_inside
keys_all dir place keys nodes last so_far = so_far ∙ ap (λ n. filter (λ m. is_key_inside dir m (get_or keys m None)) (range_with_len 0 n)) last

-- the entry that stands at a place, where one does
pub stands : (entries now : List (Option Entry)) (n node : ℕ) (entry : Entry) (slot : Option Entry) → entries ≡ now → IsSome (entry_at now node) → n ≡ node
    → slot ≡ get_or entries n slot → slot ≡ Some entry → entry_at entries n ≡ Some entry
stands entries now n node entry slot view some same at is =
    let below = below_size entries now n node view some same in
    sym (get_or_default entries n slot None below) ∙ sym at ∙ is

-- one place holds no more than all
pub part_of_all : (entries : List (Option Entry)) (n : ℕ) → n < length entries → size_in (entry_at entries n) ≤ sum_by size_in entries
part_of_all entries n below = omega (arith, sum_by-set size_in entries n None None below)

-- a place is given an entry and its key
pub place_set : (entries : List (Option Entry)) (keys : List (Option Key)) (total n : ℕ) (now : Option Entry) (key : Option Key) (after : ℕ)
    → IsIndexed entries keys total → n < length entries → key ≡ key_in now → after + size_in (entry_at entries n) ≡ total + size_in now
    → IsIndexed (set entries n now) (set keys n key) after
place_set entries keys total n now key after index below key_is sizes = record {
  keys_are = ap₂ (λ ks k. set ks n k) index.keys_are key_is ∙ sym (map-set key_in entries n now);
  total_is = omega (arith, sum_by-set size_in entries n now None below, index.total_is, sizes);
}

-- an entry is changed, and not its directory or its name
pub entry_changed : (entries : List (Option Entry)) (keys : List (Option Key)) (total n : ℕ) (entry like : Entry) (after : ℕ) → IsIndexed entries keys total
    → entry_at entries n ≡ Some entry → key_in (Some like) ≡ key_in (Some entry) → after + length entry.contents ≡ total + length like.contents
    → IsIndexed (set entries n (Some like)) keys after
entry_changed entries keys total n entry like after index at same sizes = record {
  keys_are = index.keys_are ∙ sym (map-set_same key_in entries n (Some like) None (same ∙ sym (ap key_in at)));
  total_is = omega (arith, sum_by-set size_in entries n (Some like) None (live_within entries n entry at), ap size_in at, index.total_is, sizes);
}

-- an entry holds no more than all
pub part_of_total : (entries : List (Option Entry)) (keys : List (Option Key)) (total n : ℕ) (entry : Entry) → IsIndexed entries keys total
    → entry_at entries n ≡ Some entry → length entry.contents ≤ total
part_of_total entries keys total n entry index at =
    omega (arith, part_of_all entries n (live_within entries n entry at), ap size_in at, index.total_is)

map_replicate : {K X : Type 0} (key : X → K) (n : ℕ) (x : X) → map key (replicate n x) ≡ replicate n (key x)
map_replicate key zero x = refl
map_replicate key (suc n) x = ap (λ ks. key x ∷ ks) (map_replicate key n x)

-- places that are all free
pub free_index : (entries : List (Option Entry)) (keys : List (Option Key)) → entries ≡ replicate 1024 None → keys ≡ replicate 1024 None
    → IsIndexed entries keys 0
free_index entries keys free none = record {
  keys_are = none ∙ sym (map_replicate key_in 1024 None) ∙ ap (map key_in) (sym free);
  total_is = sym (ap (sum_by size_in) free ∙ sum_by-replicate size_in 1024 None);
}
