-- The word of groups, group by group.
use Rattle.std.proofs.Common.{◌≡◌, ℕ, List, [], ◌∷◌, ◌++◌, length, map, refl, sym, ap, ◌∙◌, append-nil, arith}
use Rattle.std.specs.Prelude.{codes}
use Rattle.std.specs.Fmt.{decimal}
use Rattle.std.specs.List.{flat_map, join_with_byte}
use Rattle.std.specs.Str.{byte}
use Rattle.std.proofs.lemmas.Bool.{eq-eqb, ne_eqb}
use Rattle.std.proofs.lemmas.List.Concat.{flat_map-cons}
use Rattle.call_words.specs.Groups.{groups_word}

-- no groups are a dash
pub no_groups : (ns : List ℕ) → length ns ≡ 0 → groups_word ns ≡ codes "-"
unfolding groups_word
no_groups ns none = rw (eq-eqb (length ns) 0 none) refl

joined : (n : ℕ) (ns : List ℕ) → join_with_byte (byte "+") (map decimal (n ∷ ns)) ≡ decimal n ++ flat_map (λ m. codes "+" ++ decimal m) ns
joined n [] = sym (append-nil (decimal n))
joined n (m ∷ ns) =
    ap (λ more. decimal n ++ (byte "+" ∷ more)) (joined m ns) ∙ ap (λ more. decimal n ++ more) (sym (flat_map-cons (λ m. codes "+" ++ decimal m) m ns))

-- the first group, and each other after a plus sign
pub some_groups : (n : ℕ) (ns : List ℕ) → groups_word (n ∷ ns) ≡ decimal n ++ flat_map (λ m. codes "+" ++ decimal m) ns
unfolding groups_word
some_groups n ns = rw (ne_eqb (length (n ∷ ns)) 0 (omega arith)) (joined n ns)
