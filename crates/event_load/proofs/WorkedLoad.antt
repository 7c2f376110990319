-- The first words from the state 7, worked out elsewhere.
use Rattle.std.proofs.Common.{◌≡◌, ℕ, zero, suc, List, [], ◌∷◌, refl}
use Rattle.rand_pcg.specs.Lcg.{Lcg}
use Rattle.rand_pcg.specs.Pcg.{pcg32}
use Rattle.event_load.specs.Load.{generator_of}

-- so many words
abbrev words_of : ℕ → Lcg → List ℕ
words_of zero generator = []
words_of (suc n) generator = (pcg32 generator).0 ∷ words_of n (pcg32 generator).1

first_words_from_seven : words_of 10 (generator_of 7)
    ≡ 2215483850 ∷ 315054046 ∷ 1954657312 ∷ 4195553631 ∷ 1808639637 ∷ 1770728691 ∷ 1695204567 ∷ 2592056079 ∷ 4094314351 ∷ 3463769096 ∷ []
first_words_from_seven = refl
