-- Over all reads of a line the positions of the events that brought the bytes strictly rise, and each byte is of a byte of the line after its last revoke.
use Rattle.std.proofs.Common.{◌≡◌, ◌⊎◌, inl, inr, ℕ, zero, suc, ◌+◌, ◌<◌, ◌≤◌, List, [], ◌∷◌, ◌++◌, refl, sym, ap, subst, ◌∙◌, arith}
use Rattle.std.specs.Prelude.{Some, slice_get, replicate}
use Rattle.std.specs.List.{All, AllByRecursion}
use Rattle.std.specs.List.Sorted.{IsStrictlyIncreasing}
use Rattle.std.proofs.lemmas.List.{append-nil, append_assoc}
use Rattle.std.proofs.lemmas.List.Elements.{All-from_recursion}
use Rattle.sys_types.specs.declared.limits.TheConstants.{LINES}
use Rattle.call_words.specs.declared.event.Event.{Event}
use Rattle.user_db.specs.declared.boot.Boot.{Boot}
use Rattle.line_disc.specs.Device.{Device, closed_device}
use Rattle.line_disc.specs.Lines.{line_at}
use Rattle.system_model.specs.State.{Tagged, last_revoke, State, view, boot}
use Rattle.system_model.specs.Step.{effects_of, step}
use Rattle.system_model.specs.Run.{state_after}
use Rattle.system_laws.specs.ProvenanceLaws.{cells_read, gather, tags, IsReadWell}
use Rattle.system_laws.proofs.OpenRuns.{Next, over, further, next, within_at}
use Rattle.system_laws.proofs.InputEffects.{input_at, IsPlainOf, IsPlainAt}
use Rattle.system_laws.proofs.InputEvents.{Brings, no_cell, one_cell, InputAfter, input_after}

-- ---- cells whose positions rise

-- the positions strictly rise, from above one on and up to another
abbrev Rise : ℕ → List Tagged → ℕ → Type 0
Rise low [] high = low ≤ high
Rise low (cell ∷ cells) high = (low < cell.brought) × Rise cell.brought cells high

rise-ends : (low high : ℕ) (cells : List Tagged) → Rise low cells high → low ≤ high
rise-ends low high [] rise = rise
rise-ends low high (cell ∷ cells) rise = let below = rise.0 in let ends = rise-ends cell.brought high cells rise.1 in omega (arith, below, ends)

rise-front : (low high : ℕ) (cells more : List Tagged) → Rise low (cells ++ more) high → Rise low cells high
rise-front low high [] more rise = rise-ends low high more rise
rise-front low high (cell ∷ cells) more rise = (rise.0, rise-front cell.brought high cells more rise.1)

rise-later : (low high : ℕ) (cells : List Tagged) → Rise low cells high → Rise low cells (high + 1)
rise-later low high [] rise = omega (arith, rise)
rise-later low high (cell ∷ cells) rise = (rise.0, rise-later cell.brought high cells rise.1)

rise-one : (low high byte : ℕ) (cells : List Tagged) → Rise low cells high
    → Rise low (cells ++ record { byte = byte; brought = high + 1 } ∷ []) (high + 1)
rise-one low high byte [] rise = (omega (arith, rise), omega arith)
rise-one low high byte (cell ∷ cells) rise = (rise.0, rise-one cell.brought high byte cells rise.1)

increasing-next : (low high : ℕ) (cell : Tagged) (cells : List Tagged) → Rise low (cell ∷ cells) high → IsStrictlyIncreasing (tags cells)
    → IsStrictlyIncreasing (tags (cell ∷ cells))
increasing-next low high cell [] rise more zero within = omega (arith, within)
increasing-next low high cell [] rise more (suc k) within = omega (arith, within)
increasing-next low high cell (other ∷ cells) rise more zero within = rise.1.0
increasing-next low high cell (other ∷ cells) rise more (suc k) within =
    let one : suc k + 1 ≡ suc (k + 1) = omega arith in
    rw one (more k (omega (arith, within)))

none-increasing : IsStrictlyIncreasing []
none-increasing k within = omega (arith, within)

rise-increasing : (low high : ℕ) (cells : List Tagged) → Rise low cells high → IsStrictlyIncreasing (tags cells)
rise-increasing low high [] rise = none-increasing
rise-increasing low high (cell ∷ cells) rise = increasing-next low high cell cells rise (rise-increasing cell.brought high cells rise.1)

-- ---- what is read and what is left rises

brings-rise : (n : ℕ) (s : State) (k : ℕ) (e : Event) (cells more : List Tagged) → Brings n s (k + 1) e more → Rise 0 cells k → Rise 0 (cells ++ more) (k + 1)
brings-rise n s k e cells _ no_cell rise = subst (λ xs. Rise 0 xs (k + 1)) (sym (append-nil cells)) (rise-later 0 k cells rise)
brings-rise n s k e cells _ (one_cell b read is reads_so) rise = rise-one 0 k read cells rise

rises-after : (n : ℕ) (s : State) (k : ℕ) (e : Event) (past : List Tagged) → InputAfter n s (k + 1) e (effects_of (view s) e) → Rise 0 (past ++ input_at n s) k
    → Rise 0 ((past ++ cells_read n s (k + 1) e) ++ input_at n (step s (k + 1) e).0) (k + 1)
rises-after n s k e past after rise =
    let read = cells_read n s (k + 1) e in
    let left = input_at n (step s (k + 1) e).0 in
    let same : (past ++ input_at n s) ++ after.more ≡ ((past ++ read) ++ left) ++ after.gone =
    append_assoc past (input_at n s) after.more
    ∙ ap (λ xs. past ++ xs) after.is
    ∙ sym (append_assoc past (read ++ left) after.gone)
    ∙ ap (λ xs. xs ++ after.gone) (sym (append_assoc past read left))
    in
    rise-front 0 (k + 1) ((past ++ read) ++ left) after.gone
    (subst (λ xs. Rise 0 xs (k + 1)) same (brings-rise n s k e (past ++ input_at n s) after.more after.brings rise))

reads-rise : (n : ℕ) (s : State) (k : ℕ) (es : List Event) (past : List Tagged) → IsPlainAt n s → Rise 0 (past ++ input_at n s) k
    → IsStrictlyIncreasing (tags (past ++ gather (cells_read n) s (k + 1) es))
reads-rise n s k [] past plain rise =
    subst (λ xs. IsStrictlyIncreasing (tags xs)) (sym (append-nil past)) (rise-increasing 0 k past (rise-front 0 k past (input_at n s) rise))
reads-rise n s k (e ∷ es) past plain rise =
    let after = input_after n s (k + 1) e plain in
    let read = cells_read n s (k + 1) e in
    let t = (step s (k + 1) e).0 in
    subst (λ xs. IsStrictlyIncreasing (tags xs)) (append_assoc past read (gather (cells_read n) t (k + 1 + 1) es))
    (reads-rise n t (k + 1) es (past ++ read) after.plain (rises-after n s k e past after rise))

closed-at : (count n : ℕ) → line_at {C = Tagged} (replicate count closed_device) n ≡ closed_device
closed-at zero n = refl
closed-at (suc count) zero = refl
closed-at (suc count) (suc n) = closed-at count n

pub boot-line : (says : Boot) (n : ℕ) → line_at (boot says).parts.lines n ≡ closed_device
unfolding boot
boot-line says n = closed-at LINES n

boot-plain : (says : Boot) (n : ℕ) → IsPlainAt n (boot says)
boot-plain says n = subst (λ (line : Device Tagged). IsPlainOf line.discipline) (sym (boot-line says n)) tt

boot-input : (says : Boot) (n : ℕ) → input_at n (boot says) ≡ []
boot-input says n = rw (boot-line says n) refl

pub reads_rise : (says : Boot) (es : List Event) (n : ℕ) → IsStrictlyIncreasing (tags (gather (cells_read n) (boot says) 1 es))
reads_rise says es n =
    let least : 0 ≤ 0 = omega arith in
    reads-rise n (boot says) 0 es [] (boot-plain says n) (subst (λ xs. Rise 0 xs 0) (sym (boot-input says n)) least)

-- ---- each cell of the input is of a byte of the line

pub each-append : (P : Tagged → Type 0) (xs ys : List Tagged) → AllByRecursion P xs → AllByRecursion P ys → AllByRecursion P (xs ++ ys)
each-append P [] ys first then = then
each-append P (x ∷ xs) ys first then = (first.0, each-append P xs ys first.1 then)

pub each-front : (P : Tagged → Type 0) (xs ys : List Tagged) → AllByRecursion P (xs ++ ys) → AllByRecursion P xs
each-front P [] ys each = tt
each-front P (x ∷ xs) ys each = (each.0, each-front P xs ys each.1)

pub each-back : (P : Tagged → Type 0) (xs ys : List Tagged) → AllByRecursion P (xs ++ ys) → AllByRecursion P ys
each-back P [] ys each = each
each-back P (x ∷ xs) ys each = each-back P xs ys each.1

pub each-so : {P Q : Tagged → Type 0} → ((cell : Tagged) → P cell → Q cell) → (xs : List Tagged) → AllByRecursion P xs → AllByRecursion Q xs
each-so so [] each = tt
each-so so (x ∷ xs) each = (so x each.0, each-so so xs each.1)

-- the moments of a run, one after another
record InputMoment (says : Boot) (es : List Event) (n k : ℕ) : Type 0 where
  plain : IsPlainAt n (state_after says es k)
  cells : AllByRecursion (IsReadWell says es k n) (input_at n (state_after says es k))

later-well : (says : Boot) (es : List Event) (k n : ℕ) (cell : Tagged)
    → last_revoke (state_after says es (suc k)).revokes n ≡ last_revoke (state_after says es k).revokes n → IsReadWell says es k n cell
    → IsReadWell says es (suc k) n cell
later-well says es k n cell same well =
    let past = well.past in
    record {
      before = well.before;
      past = omega (arith, past);
      brought = well.brought;
      unrevoked = subst (λ m. m < cell.brought) (sym same) well.unrevoked;
      byte = well.byte;
      at = well.at;
      read = well.read;
    }

new-well : (says : Boot) (es : List Event) (k n : ℕ) (e : Event) (more : List Tagged) → slice_get es k ≡ Some e
    → last_revoke (state_after says es (suc k)).revokes n ≡ last_revoke (state_after says es k).revokes n
    → Brings n (state_after says es k) (1 + k) e more → AllByRecursion (IsReadWell says es (suc k) n) more
new-well says es k n e _ at same no_cell = tt
new-well says es k n e _ at same (one_cell b read is reads_so) =
    let most = (within_at says es k).revokes n in (
      record {
        before = k;
        past = omega arith;
        brought = omega arith;
        unrevoked = subst (λ m. m < 1 + k) (sym same) (omega (arith, most));
        byte = b;
        at = at ∙ ap (λ d. Some d) is;
        read = reads_so;
      },
      tt,
    )

next-cells : (says : Boot) (es : List Event) (k n : ℕ) (e : Event) → slice_get es k ≡ Some e → (s t : State) → s ≡ state_after says es k
    → state_after says es (suc k) ≡ t → t ≡ (step s (1 + k) e).0 → InputMoment says es n k
    → InputAfter n s (1 + k) e (effects_of (view s) e) → AllByRecursion (IsReadWell says es (suc k) n) (input_at n (step s (1 + k) e).0)
next-cells says es k n e at s t here there is m after = by_last after.last
  where
    u : State
    u = (step s (1 + k) e).0

    by_last : (last_revoke u.revokes n ≡ last_revoke s.revokes n) ⊎ (input_at n u ≡ []) → AllByRecursion (IsReadWell says es (suc k) n) (input_at n u)
    by_last (inr empty) = subst (AllByRecursion (IsReadWell says es (suc k) n)) (sym empty) tt
    by_last (inl still) =
        let same : last_revoke (state_after says es (suc k)).revokes n ≡ last_revoke (state_after says es k).revokes n =
        ap (λ (x : State). last_revoke x.revokes n) (there ∙ is) ∙ still ∙ ap (λ (x : State). last_revoke x.revokes n) here
        in
        let old : AllByRecursion (IsReadWell says es (suc k) n) (input_at n s) =
        each-so (λ cell. later-well says es k n cell same) (input_at n s)
        (subst (λ (x : State). AllByRecursion (IsReadWell says es k n) (input_at n x)) (sym here) m.cells)
        in
        let new = new-well says es k n e after.more at same (subst (λ (x : State). Brings n x (1 + k) e after.more) here after.brings) in
        let both = each-append (IsReadWell says es (suc k) n) (input_at n s) after.more old new in
        let all = subst (AllByRecursion (IsReadWell says es (suc k) n)) after.is both in
        each-back (IsReadWell says es (suc k) n) (cells_read n s (1 + k) e) (input_at n u)
        (each-front (IsReadWell says es (suc k) n) (cells_read n s (1 + k) e ++ input_at n u) after.gone all)

next-moment : (says : Boot) (es : List Event) (n k : ℕ) → InputMoment says es n k → Next (boot says) 1 es k → InputMoment says es n (suc k)
next-moment says es n k m (over same) = record {
  plain = subst (IsPlainAt n) (sym same) m.plain;
  cells =
      subst (λ (t : State). AllByRecursion (IsReadWell says es (suc k) n) (input_at n t)) (sym same)
      (each-so (λ cell. later-well says es k n cell (ap (λ (t : State). last_revoke t.revokes n) same)) (input_at n (state_after says es k)) m.cells);
}
next-moment says es n k m (further e at is) =
    let s = state_after says es k in
    let after = input_after n s (1 + k) e m.plain in
    record {
      plain = subst (IsPlainAt n) (sym is) after.plain;
      cells =
          subst (λ (t : State). AllByRecursion (IsReadWell says es (suc k) n) (input_at n t)) (sym is)
          (next-cells says es k n e at s (step s (1 + k) e).0 refl is refl m after);
    }

input-moment : (says : Boot) (es : List Event) (n k : ℕ) → InputMoment says es n k
input-moment says es n zero = record {
  plain = boot-plain says n;
  cells = subst (AllByRecursion (IsReadWell says es 0 n)) (sym (boot-input says n)) tt;
}
input-moment says es n (suc k) = next-moment says es n k (input-moment says es n k) (next es (boot says) 1 k)

-- what is read stood in the input before
read-before : (P : Tagged → Type 0) (n : ℕ) (s : State) (p : ℕ) (e : Event) → InputAfter n s p e (effects_of (view s) e) → AllByRecursion P (input_at n s)
    → AllByRecursion P (cells_read n s p e)
read-before P n s p e after each = by_apart after.apart
  where
    by_apart : (after.more ≡ []) ⊎ (cells_read n s p e ≡ []) → AllByRecursion P (cells_read n s p e)
    by_apart (inr empty) = subst (AllByRecursion P) (sym empty) tt
    by_apart (inl none) =
        let same = sym (append-nil (input_at n s)) ∙ ap (λ xs. input_at n s ++ xs) (sym none) ∙ after.is in
        each-front P (cells_read n s p e) (input_at n (step s p e).0)
        (each-front P (cells_read n s p e ++ input_at n (step s p e).0) after.gone (subst (AllByRecursion P) same each))

pub reads_well : (says : Boot) (es : List Event) (k n : ℕ) (e : Event)
    → All (IsReadWell says es k n) (cells_read n (state_after says es k) (k + 1) e)
reads_well says es k n e =
    let s = state_after says es k in
    let m = input-moment says es n k in
    All-from_recursion (IsReadWell says es k n) (cells_read n s (k + 1) e)
    (read-before (IsReadWell says es k n) n s (k + 1) e (input_after n s (k + 1) e m.plain) m.cells)
