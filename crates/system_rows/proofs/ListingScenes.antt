-- What a listing of a directory has room for.
use Rattle.std.proofs.Common.{◌≡◌, [], ◌∷◌, ◌++◌, codes, refl}
use Rattle.system_rows.specs.Scenes.{wrong, times}
use Rattle.system_rows.proofs.Computing.{scenes_compute}

-- Sixteen names and 15 slashes fit: 16 * 255 + 15 is 4,095.
sixteen_names_fit : wrong [] (
    (codes "0 mkdir /tmp/a" ++ times 254 (codes ".") ++ codes " 700 -> 0 ok 0")
    ∷ (codes "0 mkdir /tmp/b" ++ times 254 (codes ".") ++ codes " 700 -> 0 ok 0")
    ∷ (codes "0 mkdir /tmp/c" ++ times 254 (codes ".") ++ codes " 700 -> 0 ok 0")
    ∷ (codes "0 mkdir /tmp/d" ++ times 254 (codes ".") ++ codes " 700 -> 0 ok 0")
    ∷ (codes "0 mkdir /tmp/e" ++ times 254 (codes ".") ++ codes " 700 -> 0 ok 0")
    ∷ (codes "0 mkdir /tmp/f" ++ times 254 (codes ".") ++ codes " 700 -> 0 ok 0")
    ∷ (codes "0 mkdir /tmp/g" ++ times 254 (codes ".") ++ codes " 700 -> 0 ok 0")
    ∷ (codes "0 mkdir /tmp/h" ++ times 254 (codes ".") ++ codes " 700 -> 0 ok 0")
    ∷ (codes "0 mkdir /tmp/i" ++ times 254 (codes ".") ++ codes " 700 -> 0 ok 0")
    ∷ (codes "0 mkdir /tmp/j" ++ times 254 (codes ".") ++ codes " 700 -> 0 ok 0")
    ∷ (codes "0 mkdir /tmp/k" ++ times 254 (codes ".") ++ codes " 700 -> 0 ok 0")
    ∷ (codes "0 mkdir /tmp/l" ++ times 254 (codes ".") ++ codes " 700 -> 0 ok 0")
    ∷ (codes "0 mkdir /tmp/m" ++ times 254 (codes ".") ++ codes " 700 -> 0 ok 0")
    ∷ (codes "0 mkdir /tmp/n" ++ times 254 (codes ".") ++ codes " 700 -> 0 ok 0")
    ∷ (codes "0 mkdir /tmp/o" ++ times 254 (codes ".") ++ codes " 700 -> 0 ok 0")
    ∷ (codes "0 mkdir /tmp/p" ++ times 254 (codes ".") ++ codes " 700 -> 0 ok 0")
    ∷ (codes "0 mkdir /tmp/q" ++ times 254 (codes ".") ++ codes " 700 -> 0 ok 0")
    ∷ (codes "0 mkdir /tmp/r" ++ times 254 (codes ".") ++ codes " 700 -> 0 ok 0")
    ∷ (codes "0 list /tmp 0 -> 0 text a" ++ times 254 (codes ".") ++ codes "/b" ++ times 254 (codes ".") ++ codes "/c" ++ times 254 (codes ".")
    ++ codes "/d" ++ times 254 (codes ".") ++ codes "/e" ++ times 254 (codes ".") ++ codes "/f" ++ times 254 (codes ".") ++ codes "/g"
    ++ times 254 (codes ".") ++ codes "/h" ++ times 254 (codes ".") ++ codes "/i" ++ times 254 (codes ".") ++ codes "/j" ++ times 254 (codes ".")
    ++ codes "/k" ++ times 254 (codes ".") ++ codes "/l" ++ times 254 (codes ".") ++ codes "/m" ++ times 254 (codes ".") ++ codes "/n"
    ++ times 254 (codes ".") ++ codes "/o" ++ times 254 (codes ".") ++ codes "/p" ++ times 254 (codes "."))
    ∷ []) ≡ []
unfolding scenes_compute
sixteen_names_fit = refl

-- Seventeen names and 16 slashes fill the text: 15 * 255 + 100 + 155 + 16 is 4,096.
seventeen_names_fill_the_text : wrong [] (
    (codes "0 mkdir /tmp/a" ++ times 254 (codes ".") ++ codes " 700 -> 0 ok 0")
    ∷ (codes "0 mkdir /tmp/b" ++ times 254 (codes ".") ++ codes " 700 -> 0 ok 0")
    ∷ (codes "0 mkdir /tmp/c" ++ times 254 (codes ".") ++ codes " 700 -> 0 ok 0")
    ∷ (codes "0 mkdir /tmp/d" ++ times 254 (codes ".") ++ codes " 700 -> 0 ok 0")
    ∷ (codes "0 mkdir /tmp/e" ++ times 254 (codes ".") ++ codes " 700 -> 0 ok 0")
    ∷ (codes "0 mkdir /tmp/f" ++ times 254 (codes ".") ++ codes " 700 -> 0 ok 0")
    ∷ (codes "0 mkdir /tmp/g" ++ times 254 (codes ".") ++ codes " 700 -> 0 ok 0")
    ∷ (codes "0 mkdir /tmp/h" ++ times 254 (codes ".") ++ codes " 700 -> 0 ok 0")
    ∷ (codes "0 mkdir /tmp/i" ++ times 254 (codes ".") ++ codes " 700 -> 0 ok 0")
    ∷ (codes "0 mkdir /tmp/j" ++ times 254 (codes ".") ++ codes " 700 -> 0 ok 0")
    ∷ (codes "0 mkdir /tmp/k" ++ times 254 (codes ".") ++ codes " 700 -> 0 ok 0")
    ∷ (codes "0 mkdir /tmp/l" ++ times 254 (codes ".") ++ codes " 700 -> 0 ok 0")
    ∷ (codes "0 mkdir /tmp/m" ++ times 254 (codes ".") ++ codes " 700 -> 0 ok 0")
    ∷ (codes "0 mkdir /tmp/n" ++ times 254 (codes ".") ++ codes " 700 -> 0 ok 0")
    ∷ (codes "0 mkdir /tmp/o" ++ times 254 (codes ".") ++ codes " 700 -> 0 ok 0")
    ∷ codes "0 mkdir /tmp/p................................................................................................... 700 -> 0 ok 0"
    ∷ (codes "0 mkdir /tmp/q" ++ times 154 (codes ".") ++ codes " 700 -> 0 ok 0")
    ∷ codes "0 mkdir /tmp/r 700 -> 0 ok 0"
    ∷ (codes "0 list /tmp 0 -> 0 text a" ++ times 254 (codes ".") ++ codes "/b" ++ times 254 (codes ".") ++ codes "/c" ++ times 254 (codes ".")
    ++ codes "/d" ++ times 254 (codes ".") ++ codes "/e" ++ times 254 (codes ".") ++ codes "/f" ++ times 254 (codes ".") ++ codes "/g"
    ++ times 254 (codes ".") ++ codes "/h" ++ times 254 (codes ".") ++ codes "/i" ++ times 254 (codes ".") ++ codes "/j" ++ times 254 (codes ".")
    ++ codes "/k" ++ times 254 (codes ".") ++ codes "/l" ++ times 254 (codes ".") ++ codes "/m" ++ times 254 (codes ".") ++ codes "/n"
    ++ times 254 (codes ".") ++ codes "/o" ++ times 254 (codes ".") ++ codes "/p" ++ times 99 (codes ".") ++ codes "/q" ++ times 154 (codes "."))
    ∷ []) ≡ []
unfolding scenes_compute
seventeen_names_fill_the_text = refl

-- The last name would fit, but stands behind one that does not: 15 * 255 + 200 + 15 is 4,040.
a_listing_ends_at_the_first_name_that_does_not_fit : wrong [] (
    (codes "0 mkdir /tmp/a" ++ times 254 (codes ".") ++ codes " 700 -> 0 ok 0")
    ∷ (codes "0 mkdir /tmp/b" ++ times 254 (codes ".") ++ codes " 700 -> 0 ok 0")
    ∷ (codes "0 mkdir /tmp/c" ++ times 254 (codes ".") ++ codes " 700 -> 0 ok 0")
    ∷ (codes "0 mkdir /tmp/d" ++ times 254 (codes ".") ++ codes " 700 -> 0 ok 0")
    ∷ (codes "0 mkdir /tmp/e" ++ times 254 (codes ".") ++ codes " 700 -> 0 ok 0")
    ∷ (codes "0 mkdir /tmp/f" ++ times 254 (codes ".") ++ codes " 700 -> 0 ok 0")
    ∷ (codes "0 mkdir /tmp/g" ++ times 254 (codes ".") ++ codes " 700 -> 0 ok 0")
    ∷ (codes "0 mkdir /tmp/h" ++ times 254 (codes ".") ++ codes " 700 -> 0 ok 0")
    ∷ (codes "0 mkdir /tmp/i" ++ times 254 (codes ".") ++ codes " 700 -> 0 ok 0")
    ∷ (codes "0 mkdir /tmp/j" ++ times 254 (codes ".") ++ codes " 700 -> 0 ok 0")
    ∷ (codes "0 mkdir /tmp/k" ++ times 254 (codes ".") ++ codes " 700 -> 0 ok 0")
    ∷ (codes "0 mkdir /tmp/l" ++ times 254 (codes ".") ++ codes " 700 -> 0 ok 0")
    ∷ (codes "0 mkdir /tmp/m" ++ times 254 (codes ".") ++ codes " 700 -> 0 ok 0")
    ∷ (codes "0 mkdir /tmp/n" ++ times 254 (codes ".") ++ codes " 700 -> 0 ok 0")
    ∷ (codes "0 mkdir /tmp/o" ++ times 254 (codes ".") ++ codes " 700 -> 0 ok 0")
    ∷ (codes "0 mkdir /tmp/p" ++ times 199 (codes ".") ++ codes " 700 -> 0 ok 0")
    ∷ (codes "0 mkdir /tmp/q" ++ times 254 (codes ".") ++ codes " 700 -> 0 ok 0")
    ∷ codes "0 mkdir /tmp/r 700 -> 0 ok 0"
    ∷ (codes "0 list /tmp 0 -> 0 text a" ++ times 254 (codes ".") ++ codes "/b" ++ times 254 (codes ".") ++ codes "/c" ++ times 254 (codes ".")
    ++ codes "/d" ++ times 254 (codes ".") ++ codes "/e" ++ times 254 (codes ".") ++ codes "/f" ++ times 254 (codes ".") ++ codes "/g"
    ++ times 254 (codes ".") ++ codes "/h" ++ times 254 (codes ".") ++ codes "/i" ++ times 254 (codes ".") ++ codes "/j" ++ times 254 (codes ".")
    ++ codes "/k" ++ times 254 (codes ".") ++ codes "/l" ++ times 254 (codes ".") ++ codes "/m" ++ times 254 (codes ".") ++ codes "/n"
    ++ times 254 (codes ".") ++ codes "/o" ++ times 254 (codes ".") ++ codes "/p" ++ times 199 (codes "."))
    ∷ []) ≡ []
unfolding scenes_compute
a_listing_ends_at_the_first_name_that_does_not_fit = refl
