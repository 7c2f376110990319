-- Dominance as an order.
use Rattle.std.proofs.Common.{◌≡◌, ◌≢◌, true, false, leb, refl, sym, arith}
use Rattle.std.proofs.lemmas.Bool.{and_parts, and_from, leb-true, le-leb, true≢false}
use Rattle.label_core.specs.declared.element.Element.{Element}
use Rattle.label_core.specs.declared.element.Element.TheVariants.{Low, Equal, High, Grade}
use Rattle.label_core.specs.CompSet.{is_subset}
use Rattle.label_core.specs.Element.{IsElement, dom}
use Rattle.label_core.proofs.SetLemmas.{is_subset_refl, is_subset_trans, is_subset_both}

pub dom_refl : (a : Element) → dom a a ≡ true
unfolding dom
dom_refl Low = refl
dom_refl Equal = refl
dom_refl High = refl
dom_refl (Grade grade set) = and_from (leb grade grade) (is_subset set set) (le-leb grade grade (omega arith)) (is_subset_refl set)

impossible : {P : Type 0} → false ≡ true → P
impossible h = absurd (true≢false (sym h))

pub dom_trans : (a b c : Element) → b ≢ Equal → dom a b ≡ true → dom b c ≡ true → dom a c ≡ true
unfolding dom
dom_trans a Equal c other ab bc = absurd (other refl)
dom_trans Equal b c other ab bc = refl
dom_trans Low b Equal other ab bc = refl
dom_trans Low b Low other ab bc = refl
dom_trans Low Low c other ab bc = bc
dom_trans Low High c other ab bc = impossible ab
dom_trans Low (Grade g s) c other ab bc = impossible ab
dom_trans High b Low other ab bc = refl
dom_trans High b Equal other ab bc = refl
dom_trans High b High other ab bc = refl
dom_trans High b (Grade g s) other ab bc = refl
dom_trans (Grade g s) b Low other ab bc = refl
dom_trans (Grade g s) b Equal other ab bc = refl
dom_trans (Grade g s) Low High other ab bc = impossible bc
dom_trans (Grade g s) Low (Grade k u) other ab bc = impossible bc
dom_trans (Grade g s) High c other ab bc = impossible ab
dom_trans (Grade g s) (Grade h t) High other ab bc = impossible bc
dom_trans (Grade g s) (Grade h t) (Grade k u) other ab bc =
    let upper = and_parts (leb h g) (is_subset t s) ab in
    let lower = and_parts (leb k h) (is_subset u t) bc in
    and_from (leb k g) (is_subset u s) (le-leb k g (omega (arith, leb-true h g upper.0, leb-true k h lower.0))) (is_subset_trans u t s lower.1 upper.1)

pub dom_antisym : (a b : Element) → IsElement a → IsElement b → a ≢ Equal → b ≢ Equal → dom a b ≡ true → dom b a ≡ true → a ≡ b
unfolding dom
dom_antisym Equal b a_is b_is a_other b_other ab ba = absurd (a_other refl)
dom_antisym a Equal a_is b_is a_other b_other ab ba = absurd (b_other refl)
dom_antisym Low Low a_is b_is a_other b_other ab ba = refl
dom_antisym High High a_is b_is a_other b_other ab ba = refl
dom_antisym Low b a_is b_is a_other b_other ab ba = impossible ab
dom_antisym a Low a_is b_is a_other b_other ab ba = impossible ba
dom_antisym High b a_is b_is a_other b_other ab ba = impossible ba
dom_antisym a High a_is b_is a_other b_other ab ba = impossible ab
dom_antisym (Grade g s) (Grade h t) a_is b_is a_other b_other ab ba =
    let down = and_parts (leb h g) (is_subset t s) ab in
    let up = and_parts (leb g h) (is_subset s t) ba in
    let grades : g ≡ h = omega (arith, leb-true h g down.0, leb-true g h up.0) in
    let sets : s ≡ t = is_subset_both 0 s t a_is.set b_is.set up.1 down.1 in
    rw (grades, sets) refl

pub dom-Low : (a : Element) → dom a Low ≡ true
unfolding dom
dom-Low Low = refl
dom-Low Equal = refl
dom-Low High = refl
dom-Low (Grade grade set) = refl

pub dom-High : (a : Element) → dom High a ≡ true
unfolding dom
dom-High Low = refl
dom-High Equal = refl
dom-High High = refl
dom-High (Grade grade set) = refl

pub ruleset dominance = (dom_refl, dom_trans, dom_antisym, dom-Low, dom-High)
