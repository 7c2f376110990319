-- Over all takes of a line the positions of the events that put the bytes never fall; each is such an event after the line's last revoke, and what is
-- taken of one event is what it put out, from the first byte on.
use Rattle.std.proofs.Common.{◌≡◌, ◌⊎◌, inl, inr, ℕ, zero, suc, ◌+◌, ◌<◌, ◌≤◌, false, List, [], ◌∷◌, ◌++◌, take, length, refl, sym, ap}
use Rattle.std.proofs.Common.{subst, ◌∙◌, arith}
use Rattle.std.specs.Prelude.{◌==◌, Some, slice_get, slice_index_or}
use Rattle.std.specs.List.{All, AllByRecursion}
use Rattle.std.specs.List.Sorted.{IsNonDecreasing}
use Rattle.std.proofs.lemmas.List.{append-nil, append_assoc}
use Rattle.std.proofs.lemmas.List.Elements.{All-from_recursion, filter-append}
use Rattle.std.proofs.lemmas.Bool.Decides.{nat_tests}
use Rattle.call_words.specs.declared.event.Event.{Event}
use Rattle.user_db.specs.declared.boot.Boot.{Boot}
use Rattle.line_disc.specs.Device.{Device}
use Rattle.system_model.specs.State.{Tagged, last_revoke, State, view, boot}
use Rattle.system_model.specs.Step.{effects_of, step}
use Rattle.system_model.specs.Run.{state_from, state_after}
use Rattle.system_laws.specs.ProvenanceLaws.{gather, tags, output_cells, output_at, cells_sent, brought_at, PutsOut, IsSentWell}
use Rattle.system_laws.proofs.OpenRuns.{Next, over, further, next, within_at}
use Rattle.system_laws.proofs.RisingReads.{boot-line, each-append, each-front, each-back, each-so}
use Rattle.system_laws.proofs.OutputEvents.{AreOf, OutputAfter, output_after}

-- ---- cells whose positions never fall

-- the positions never fall, from one on and up to another
abbrev Climb : ℕ → List Tagged → ℕ → Type 0
Climb low [] high = low ≤ high
Climb low (cell ∷ cells) high = (low ≤ cell.brought) × Climb cell.brought cells high

climb-ends : (low high : ℕ) (cells : List Tagged) → Climb low cells high → low ≤ high
climb-ends low high [] climb = climb
climb-ends low high (cell ∷ cells) climb = let below = climb.0 in let ends = climb-ends cell.brought high cells climb.1 in omega (arith, below, ends)

climb-lower : (low least high : ℕ) (cells : List Tagged) → least ≤ low → Climb low cells high → Climb least cells high
climb-lower low least high [] below climb = omega (arith, below, climb)
climb-lower low least high (cell ∷ cells) below climb = let next_is = climb.0 in (omega (arith, below, next_is), climb.1)

climb-front : (low high : ℕ) (cells more : List Tagged) → Climb low (cells ++ more) high → Climb low cells high
climb-front low high [] more climb = climb-ends low high more climb
climb-front low high (cell ∷ cells) more climb = (climb.0, climb-front cell.brought high cells more climb.1)

climb-back : (low high : ℕ) (lost more : List Tagged) → Climb low (lost ++ more) high → Climb low more high
climb-back low high [] more climb = climb
climb-back low high (cell ∷ lost) more climb =
    climb-lower cell.brought low high more climb.0 (climb-back cell.brought high lost more climb.1)

climb-skip : (low high : ℕ) (cells lost more : List Tagged) → Climb low (cells ++ (lost ++ more)) high → Climb low (cells ++ more) high
climb-skip low high [] lost more climb = climb-back low high lost more climb
climb-skip low high (cell ∷ cells) lost more climb = (climb.0, climb-skip cell.brought high cells lost more climb.1)

climb-of : (low k : ℕ) (more : List Tagged) → low ≤ k + 1 → AreOf (k + 1) more → Climb low more (k + 1)
climb-of low k [] below are = below
climb-of low k (cell ∷ more) below are =
    let is = are.0 in
    (omega (arith, below, is), climb-of cell.brought k more (omega (arith, is)) are.1)

climb-more : (low k : ℕ) (cells more : List Tagged) → AreOf (k + 1) more → Climb low cells k → Climb low (cells ++ more) (k + 1)
climb-more low k [] more are climb = climb-of low k more (omega (arith, climb)) are
climb-more low k (cell ∷ cells) more are climb = (climb.0, climb-more cell.brought k cells more are climb.1)

climb-least : (low high : ℕ) (cells : List Tagged) (j d : ℕ) → Climb low cells high → j < length (tags cells) → low ≤ slice_index_or (tags cells) j d
climb-least low high [] j d climb within = omega (arith, within)
climb-least low high (cell ∷ cells) zero d climb within = climb.0
climb-least low high (cell ∷ cells) (suc j) d climb within =
    let first = climb.0 in
    let rest = climb-least cell.brought high cells j d climb.1 (omega (arith, within)) in
    omega (arith, first, rest)

climb-sorted : (low high : ℕ) (cells : List Tagged) → Climb low cells high → IsNonDecreasing (tags cells)
climb-sorted low high [] climb i j d before within = omega (arith, within)
climb-sorted low high (cell ∷ cells) climb zero zero d before within = omega arith
climb-sorted low high (cell ∷ cells) climb zero (suc j) d before within = climb-least cell.brought high cells j d climb.1 (omega (arith, within))
climb-sorted low high (cell ∷ cells) climb (suc i) zero d before within = omega (arith, before)
climb-sorted low high (cell ∷ cells) climb (suc i) (suc j) d before within =
    climb-sorted cell.brought high cells climb.1 i j d (omega (arith, before)) (omega (arith, within))

-- ---- what is taken and what is left climbs

-- what was taken, what was put out, and what is taken, is lost and is left of it
split-after : (n : ℕ) (s : State) (p : ℕ) (e : Event) (past : List Tagged) (after : OutputAfter n s p e (effects_of (view s) e))
    → (past ++ output_at n s) ++ after.more ≡ (past ++ cells_sent n s p e) ++ (after.lost ++ output_at n (step s p e).0)
split-after n s p e past after =
    append_assoc past (output_at n s) after.more
    ∙ ap (λ xs. past ++ xs) after.is
    ∙ sym (append_assoc past (cells_sent n s p e) (after.lost ++ output_at n (step s p e).0))

climbs-after : (n : ℕ) (s : State) (k : ℕ) (e : Event) (past : List Tagged) → Climb 0 (past ++ output_at n s) k
    → Climb 0 ((past ++ cells_sent n s (k + 1) e) ++ output_at n (step s (k + 1) e).0) (k + 1)
climbs-after n s k e past climb =
    let after = output_after n s (k + 1) e in
    climb-skip 0 (k + 1) (past ++ cells_sent n s (k + 1) e) after.lost (output_at n (step s (k + 1) e).0)
    (subst (λ xs. Climb 0 xs (k + 1)) (split-after n s (k + 1) e past after) (climb-more 0 k (past ++ output_at n s) after.more after.of_event climb))

takes-climb : (n : ℕ) (s : State) (k : ℕ) (es : List Event) (past : List Tagged) → Climb 0 (past ++ output_at n s) k
    → IsNonDecreasing (tags (past ++ gather (cells_sent n) s (k + 1) es))
takes-climb n s k [] past climb =
    subst (λ xs. IsNonDecreasing (tags xs)) (sym (append-nil past)) (climb-sorted 0 k past (climb-front 0 k past (output_at n s) climb))
takes-climb n s k (e ∷ es) past climb =
    let sent = cells_sent n s (k + 1) e in
    let t = (step s (k + 1) e).0 in
    subst (λ xs. IsNonDecreasing (tags xs)) (append_assoc past sent (gather (cells_sent n) t (k + 1 + 1) es))
    (takes-climb n t (k + 1) es (past ++ sent) (climbs-after n s k e past climb))

boot-output : (says : Boot) (n : ℕ) → output_at n (boot says) ≡ []
boot-output says n = ap (λ (line : Device Tagged). output_cells line.discipline) (boot-line says n)

boot-climb : (says : Boot) (n : ℕ) → Climb 0 ([] ++ output_at n (boot says)) 0
boot-climb says n = let least : 0 ≤ 0 = omega arith in subst (λ xs. Climb 0 xs 0) (sym (boot-output says n)) least

pub takes_climb : (says : Boot) (es : List Event) (n : ℕ) → IsNonDecreasing (tags (gather (cells_sent n) (boot says) 1 es))
takes_climb says es n = takes-climb n (boot says) 0 es [] (boot-climb says n)

-- ---- each cell of the output was put out after the last revoke

later-well : (says : Boot) (es : List Event) (k n : ℕ) (cell : Tagged)
    → last_revoke (state_after says es (suc k)).revokes n ≡ last_revoke (state_after says es k).revokes n → IsSentWell says es k n cell
    → IsSentWell says es (suc k) n cell
later-well says es k n cell same well =
    let past = well.past in
    record {
      before = well.before;
      past = omega (arith, past);
      brought = well.brought;
      unrevoked = subst (λ m. m < cell.brought) (sym same) well.unrevoked;
      event = well.event;
      at = well.at;
      puts = well.puts;
    }

new-well : (says : Boot) (es : List Event) (k n : ℕ) (e : Event) (more : List Tagged) → slice_get es k ≡ Some e
    → last_revoke (state_after says es (suc k)).revokes n ≡ last_revoke (state_after says es k).revokes n → PutsOut (view (state_after says es k)) e n
    → AreOf (1 + k) more → AllByRecursion (IsSentWell says es (suc k) n) more
new-well says es k n e [] at same puts are = tt
new-well says es k n e (cell ∷ more) at same puts are =
    let most = (within_at says es k).revokes n in
    let is = are.0 in (
      record {
        before = k;
        past = omega arith;
        brought = omega (arith, is);
        unrevoked = subst (λ m. m < cell.brought) (sym same) (omega (arith, most, is));
        event = e;
        at = at;
        puts = puts;
      },
      new-well says es k n e more at same puts are.1,
    )

next-output : (says : Boot) (es : List Event) (k n : ℕ) (e : Event) → slice_get es k ≡ Some e
    → state_after says es (suc k) ≡ (step (state_after says es k) (1 + k) e).0
    → AllByRecursion (IsSentWell says es k n) (output_at n (state_after says es k))
    → OutputAfter n (state_after says es k) (1 + k) e (effects_of (view (state_after says es k)) e)
    → AllByRecursion (IsSentWell says es (suc k) n) (output_at n (step (state_after says es k) (1 + k) e).0)
next-output says es k n e at is cells after = by_last after.last
  where
    by_puts : last_revoke (state_after says es (suc k)).revokes n ≡ last_revoke (state_after says es k).revokes n
        → (after.more ≡ []) ⊎ PutsOut (view (state_after says es k)) e n → AllByRecursion (IsSentWell says es (suc k) n) after.more
    by_puts same (inl none) = subst (AllByRecursion (IsSentWell says es (suc k) n)) (sym none) tt
    by_puts same (inr puts) = new-well says es k n e after.more at same puts after.of_event

    by_last : (last_revoke (step (state_after says es k) (1 + k) e).0.revokes n ≡ last_revoke (state_after says es k).revokes n)
        ⊎ (output_at n (step (state_after says es k) (1 + k) e).0 ≡ [])
        → AllByRecursion (IsSentWell says es (suc k) n) (output_at n (step (state_after says es k) (1 + k) e).0)
    by_last (inr empty) = subst (AllByRecursion (IsSentWell says es (suc k) n)) (sym empty) tt
    by_last (inl still) =
        let same : last_revoke (state_after says es (suc k)).revokes n ≡ last_revoke (state_after says es k).revokes n =
        ap (λ (x : State). last_revoke x.revokes n) is ∙ still
        in
        let old = each-so (λ cell. later-well says es k n cell same) (output_at n (state_after says es k)) cells in
        let both = each-append (IsSentWell says es (suc k) n) (output_at n (state_after says es k)) after.more old (by_puts same after.puts) in
        each-back (IsSentWell says es (suc k) n) after.lost _
        (each-back (IsSentWell says es (suc k) n) (cells_sent n (state_after says es k) (1 + k) e) _
        (subst (AllByRecursion (IsSentWell says es (suc k) n)) after.is both))

next-moment : (says : Boot) (es : List Event) (n k : ℕ) → AllByRecursion (IsSentWell says es k n) (output_at n (state_after says es k))
    → Next (boot says) 1 es k → AllByRecursion (IsSentWell says es (suc k) n) (output_at n (state_after says es (suc k)))
next-moment says es n k cells (over same) =
    subst (λ (t : State). AllByRecursion (IsSentWell says es (suc k) n) (output_at n t)) (sym same)
    (each-so (λ cell. later-well says es k n cell (ap (λ (t : State). last_revoke t.revokes n) same)) (output_at n (state_after says es k)) cells)
next-moment says es n k cells (further e at is) =
    subst (λ (t : State). AllByRecursion (IsSentWell says es (suc k) n) (output_at n t)) (sym is)
    (next-output says es k n e at is cells (output_after n (state_after says es k) (1 + k) e))

output-moment : (says : Boot) (es : List Event) (n k : ℕ) → AllByRecursion (IsSentWell says es k n) (output_at n (state_after says es k))
output-moment says es n zero = subst (AllByRecursion (IsSentWell says es 0 n)) (sym (boot-output says n)) tt
output-moment says es n (suc k) = next-moment says es n k (output-moment says es n k) (next es (boot says) 1 k)

-- what is taken stood in the output before
sent-before : (P : Tagged → Type 0) (n : ℕ) (s : State) (p : ℕ) (e : Event) → OutputAfter n s p e (effects_of (view s) e) → AllByRecursion P (output_at n s)
    → AllByRecursion P (cells_sent n s p e)
sent-before P n s p e after each = by_apart after.apart
  where
    by_apart : (after.more ≡ []) ⊎ (cells_sent n s p e ≡ []) → AllByRecursion P (cells_sent n s p e)
    by_apart (inr empty) = subst (AllByRecursion P) (sym empty) tt
    by_apart (inl none) =
        let same = sym (append-nil (output_at n s)) ∙ ap (λ xs. output_at n s ++ xs) (sym none) ∙ after.is in
        each-front P (cells_sent n s p e) (after.lost ++ output_at n (step s p e).0) (subst (AllByRecursion P) same each)

pub sent_well : (says : Boot) (es : List Event) (k n : ℕ) (e : Event) → All (IsSentWell says es k n) (cells_sent n (state_after says es k) (k + 1) e)
sent_well says es k n e =
    let s = state_after says es k in
    All-from_recursion (IsSentWell says es k n) (cells_sent n s (k + 1) e)
    (sent-before (IsSentWell says es k n) n s (k + 1) e (output_after n s (k + 1) e) (output-moment says es n k))

-- ---- what is taken of one event

not-same : (a p : ℕ) → a < p → (a == p) ≡ false
not-same a p less = grind (arith, nat_tests)

not-later : (a p : ℕ) → p < a → (a == p) ≡ false
not-later a p less = grind (arith, nat_tests)

skip-cell : (p : ℕ) (cell : Tagged) (cells : List Tagged) → (cell.brought == p) ≡ false → brought_at p cells ≡ [] → brought_at p (cell ∷ cells) ≡ []
skip-cell p cell cells is none = rw is none

none-yet : (low high p : ℕ) (cells : List Tagged) → Climb low cells high → high < p → brought_at p cells ≡ []
none-yet low high p [] climb less = refl
none-yet low high p (cell ∷ cells) climb less =
    let ends = climb-ends cell.brought high cells climb.1 in
    skip-cell p cell cells (not-same cell.brought p (omega (arith, ends, less))) (none-yet cell.brought high p cells climb.1 less)

none-of : (q p : ℕ) (cells : List Tagged) → AreOf q cells → p < q → brought_at p cells ≡ []
none-of q p [] are less = refl
none-of q p (cell ∷ cells) are less =
    let is = are.0 in
    skip-cell p cell cells (not-later cell.brought p (omega (arith, is, less))) (none-of q p cells are.1 less)

-- of what an event put out some was taken, and what is left is in the output, or nothing of it is there
record Stays (p : ℕ) (past output put : List Tagged) : Type 0 where
  rest : List Tagged
  is : put ≡ brought_at p past ++ rest
  left : (brought_at p output ≡ rest) ⊎ (brought_at p output ≡ [])

nothing-first : (xs ys : List Tagged) → [] ≡ xs ++ ys → xs ≡ []
nothing-first [] ys is = refl
nothing-first (x ∷ xs) ys is = cc

nothing-second : (xs ys : List Tagged) → [] ≡ xs ++ ys → ys ≡ []
nothing-second [] ys is = sym is
nothing-second (x ∷ xs) ys is = cc

split-of : (n p : ℕ) (s : State) (q : ℕ) (e : Event) → p < q → (after : OutputAfter n s q e (effects_of (view s) e))
    → brought_at p (output_at n s) ≡ brought_at p (cells_sent n s q e) ++ (brought_at p after.lost ++ brought_at p (output_at n (step s q e).0))
split-of n p s q e less after =
    let t = (step s q e).0 in
    sym (append-nil (brought_at p (output_at n s)))
    ∙ ap (λ xs. brought_at p (output_at n s) ++ xs) (sym (none-of q p after.more after.of_event less))
    ∙ sym (filter-append (λ (cell : Tagged). cell.brought == p) (output_at n s) after.more)
    ∙ ap (λ xs. brought_at p xs) after.is
    ∙ filter-append (λ (cell : Tagged). cell.brought == p) (cells_sent n s q e) (after.lost ++ output_at n t)
    ∙ ap (λ xs. brought_at p (cells_sent n s q e) ++ xs) (filter-append (λ (cell : Tagged). cell.brought == p) after.lost (output_at n t))

stays-after : (n p : ℕ) (s : State) (q : ℕ) (e : Event) (past put : List Tagged) → p < q → Stays p past (output_at n s) put
    → Stays p (past ++ cells_sent n s q e) (output_at n (step s q e).0) put
stays-after n p s q e past put less stays = by_left stays.left
  where
    after : OutputAfter n s q e (effects_of (view s) e)
    after = output_after n s q e

    split : brought_at p (output_at n s)
        ≡ brought_at p (cells_sent n s q e) ++ (brought_at p (output_after n s q e).lost ++ brought_at p (output_at n (step s q e).0))
    split = split-of n p s q e less (output_after n s q e)

    both : brought_at p (past ++ cells_sent n s q e) ≡ brought_at p past ++ brought_at p (cells_sent n s q e)
    both = filter-append (λ (cell : Tagged). cell.brought == p) past (cells_sent n s q e)

    by_cleared : ((output_after n s q e).lost ≡ []) ⊎ AreOf q (output_at n (step s q e).0)
        → (brought_at p (output_at n (step s q e).0) ≡ brought_at p (output_after n s q e).lost ++ brought_at p (output_at n (step s q e).0))
        ⊎ (brought_at p (output_at n (step s q e).0) ≡ [])
    by_cleared (inl none) = inl (ap (λ xs. brought_at p xs ++ brought_at p (output_at n (step s q e).0)) (sym none))
    by_cleared (inr are) = inr (none-of q p (output_at n (step s q e).0) are less)

    by_left : (brought_at p (output_at n s) ≡ stays.rest) ⊎ (brought_at p (output_at n s) ≡ [])
        → Stays p (past ++ cells_sent n s q e) (output_at n (step s q e).0) put
    by_left (inl left) = record {
      rest = brought_at p (output_after n s q e).lost ++ brought_at p (output_at n (step s q e).0);
      is =
          stays.is
          ∙ ap (λ xs. brought_at p past ++ xs) (sym left ∙ split)
          ∙ sym (append_assoc (brought_at p past) (brought_at p (cells_sent n s q e)) _)
          ∙ ap (λ xs. xs ++ (brought_at p (output_after n s q e).lost ++ brought_at p (output_at n (step s q e).0))) (sym both);
      left = by_cleared (output_after n s q e).cleared;
    }
    by_left (inr empty) =
        let none = sym empty ∙ split in
        let unsent = nothing-first (brought_at p (cells_sent n s q e)) _ none in
        let unlost = nothing-second (brought_at p (cells_sent n s q e)) _ none in
        record {
          rest = stays.rest;
          is =
              stays.is
              ∙ ap (λ xs. xs ++ stays.rest)
              (sym (both ∙ ap (λ xs. brought_at p past ++ xs) unsent ∙ append-nil (brought_at p past)));
          left = inr (nothing-second (brought_at p (output_after n s q e).lost) _ (sym unlost));
        }

abbrev IsBegun : ℕ → List Tagged → List Tagged → Type 0
IsBegun p put taken = (rest : List Tagged) × (put ≡ brought_at p taken ++ rest)

-- after the event
begun-later : (n p : ℕ) (s : State) (k : ℕ) (es : List Event) (past put : List Tagged) → p ≤ k → Stays p past (output_at n s) put
    → IsBegun p put (past ++ gather (cells_sent n) s (k + 1) es)
begun-later n p s k [] past put late stays =
    subst (IsBegun p put) (sym (append-nil past)) (stays.rest, stays.is)
begun-later n p s k (e ∷ es) past put late stays =
    let sent = cells_sent n s (k + 1) e in
    let t = (step s (k + 1) e).0 in
    subst (IsBegun p put) (append_assoc past sent (gather (cells_sent n) t (k + 1 + 1) es))
    (begun-later n p t (k + 1) es (past ++ sent) put (omega (arith, late)) (stays-after n p s (k + 1) e past put (omega (arith, late)) stays))

-- what was taken up to an event, that one with it, was put out before
sent-climb : (n : ℕ) (s : State) (k : ℕ) (e : Event) (past : List Tagged) → Climb 0 (past ++ output_at n s) k → Climb 0 (past ++ cells_sent n s (k + 1) e) k
sent-climb n s k e past climb = by_apart after.apart
  where
    after : OutputAfter n s (k + 1) e (effects_of (view s) e)
    after = output_after n s (k + 1) e

    by_apart : (after.more ≡ []) ⊎ (cells_sent n s (k + 1) e ≡ []) → Climb 0 (past ++ cells_sent n s (k + 1) e) k
    by_apart (inr empty) =
        subst (λ xs. Climb 0 (past ++ xs) k) (sym empty)
        (subst (λ xs. Climb 0 xs k) (sym (append-nil past)) (climb-front 0 k past (output_at n s) climb))
    by_apart (inl none) =
        let same = sym (append-nil (past ++ output_at n s)) ∙ ap (λ xs. (past ++ output_at n s) ++ xs) (sym none) ∙ split-after n s (k + 1) e past after in
        climb-front 0 k (past ++ cells_sent n s (k + 1) e) (after.lost ++ output_at n (step s (k + 1) e).0) (subst (λ xs. Climb 0 xs k) same climb)

-- up to it
begun-early : (n p : ℕ) (s : State) (k d : ℕ) (es : List Event) (past : List Tagged) → p ≡ k + suc d → Climb 0 (past ++ output_at n s) k
    → IsBegun p (brought_at p (output_at n (state_from s (k + 1) (take (suc d) es)))) (past ++ gather (cells_sent n) s (k + 1) es)
begun-early n p s k d [] past is climb =
    let none = none-yet 0 k p past (climb-front 0 k past (output_at n s) climb) (omega (arith, is)) in (
      brought_at p (output_at n s),
      ap (λ xs. xs ++ brought_at p (output_at n s)) (sym (ap (λ xs. brought_at p xs) (append-nil past) ∙ none)),
    )
begun-early n p s k zero (e ∷ es) past is climb =
    let sent = cells_sent n s (k + 1) e in
    let t = (step s (k + 1) e).0 in
    let put = brought_at p (output_at n t) in
    let none = none-yet 0 k p (past ++ sent) (sent-climb n s k e past climb) (omega (arith, is)) in
    subst (IsBegun p put) (append_assoc past sent (gather (cells_sent n) t (k + 1 + 1) es))
    (begun-later n p t (k + 1) es (past ++ sent) put (omega (arith, is)) (record {
      rest = put;
      is = ap (λ xs. xs ++ put) (sym none);
      left = inl refl;
    }))
begun-early n p s k (suc d) (e ∷ es) past is climb =
    let sent = cells_sent n s (k + 1) e in
    let t = (step s (k + 1) e).0 in
    subst (IsBegun p (brought_at p (output_at n (state_from t (k + 1 + 1) (take (suc d) es)))))
    (append_assoc past sent (gather (cells_sent n) t (k + 1 + 1) es))
    (begun-early n p t (k + 1) d es (past ++ sent) (omega (arith, is)) (climbs-after n s k e past climb))

pub begun_at : (says : Boot) (es : List Event) (q n : ℕ)
    → IsBegun (q + 1) (brought_at (q + 1) (output_at n (state_after says es (q + 1)))) (gather (cells_sent n) (boot says) 1 es)
begun_at says es q n =
    let next_is : suc q ≡ q + 1 = omega arith in
    subst (λ m. IsBegun (q + 1) (brought_at (q + 1) (output_at n (state_after says es m))) (gather (cells_sent n) (boot says) 1 es)) next_is
    (begun-early n (q + 1) (boot says) 0 q es [] (omega arith) (boot-climb says n))
