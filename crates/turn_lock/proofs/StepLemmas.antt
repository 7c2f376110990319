-- Each step of a turn keeps the rule: a ticket is drawn, the machine is taken out, its events are counted, and it is given back.
use Rattle.std.proofs.Common.{◌≡◌, ◌≢◌, ℕ, zero, suc, ◌+◌, ◌-◌, ◌%◌, ◌^◌, ◌<◌, ◌≤◌, List, [], ◌∷◌, ◌++◌, length, get_or, set, drop, true, false, true≢false, Some, None, refl, sym, ap, ◌∙◌, subst, inl, inr, ⊎_elim, arith, length-append}
use Rattle.std.specs.Prelude.{IfSome, Option}
use Rattle.std.specs.List.{sum_by, range_with_len}
use mathlib.Core.Logic.{dite}
use native.Mathlib.Decide.{ℕ_discrete}
use mathlib.Core.List.{IsPrefix}
use mathlib.Core.Option.{some, some-injective, some-ne-none}
use mathlib.Core.Option as maybe
use lib.ListN.{get_elem?}
use lib.Seq.{set-get_or}
use Rattle.std.proofs.lemmas.List.{length-map}
use Rattle.std.proofs.lemmas.List.Sums.{sum_by-cons}
use Rattle.trail_core.specs.Trail.{Trail}
use Rattle.atomic_table.specs.Table.{State, Act, Valid, carried_after, rest, step, keeps, takes, gives, stepped, Allows}
use Rattle.atomic_table.proofs.Lists.{at_set, set_else, set_again, one_turn}
use Rattle.turn_lock.specs.declared.rule.Setup.{Setup}
use Rattle.turn_lock.specs.declared.rule.Entry.{Entry}
use Rattle.turn_lock.specs.declared.rule.Claim.{Claim}
use Rattle.turn_lock.specs.declared.rule.SeatView.{SeatView}
use Rattle.turn_lock.specs.Histories.{entries, events_of, events_by}
use Rattle.turn_lock.specs.Rule.{claim, numbers_of, ClaimsHold, machine_after, Agrees, IsOut, LockRule}
use Rattle.turn_lock.specs.Steps.{SeatState, with_ticket, with_machine, with_events, after_turn, events_since, TakesMachine, DrawsTicket, LooksForTurn, CountsEvents, PassesTurn}
use Rattle.turn_lock.proofs.SumLemmas.{sum-set, sum-same, sum-one, sum-two, sum-le, at_only, once, at_only-here, sum-once, sum-once-range, sum-range-more, one_at_most, in_range}
use Rattle.turn_lock.proofs.HistoryLemmas.{prefix_self, prefix_more, drop-append, length-entries, length-events_of, below-append, below-entries, claims-nil, claims-cons, claims-head, claim_more, claims_stay}

pub not_both : false ≡ true → ⊥
not_both e = true≢false (sym e)

module _ {A : Type 0} where
  pub set_there : (l : List A) (i : ℕ) (a b : A) → get_elem? l i ≡ some b → get_elem? (set l i a) i ≡ some a
  set_there [] i a b at = absurd (some-ne-none b (sym at))
  set_there (x ∷ xs) zero a b at = refl
  set_there (x ∷ xs) (suc i) a b at = set_there xs i a b at

module _ {Root E : Type 0} (setup : Setup (Trail Root E)) where
  abbrev V : Type 0
  V = SeatView (Trail Root E) E

  abbrev St : Type 0
  St = State (Trail Root E) V

  -- what holds of each view, after one has changed
  pub each_set : (K : V → Type 0) (views : List V) (id : ℕ) (w : V) → K w
      → ((j : ℕ) (u : V) → j ≢ id → get_elem? views j ≡ some u → K u) → (j : ℕ) (u : V) → get_elem? (set views id w) j ≡ some u → K u
  each_set K views id w mine others j u at = ⊎_elim
      (λ (t : (j ≡ id) × (w ≡ u)). subst K t.1 mine)
      (λ (t : (j ≢ id) × (get_elem? views j ≡ some u)). others j u t.0 t.1)
      (at_set views id j w u at)

  -- one view in two places is the same
  pub same_view : (views : List V) (id j : ℕ) (v u : V) → get_elem? views id ≡ some v → get_elem? views j ≡ some u → j ≡ id → v ≡ u
  same_view views id j v u at to same = some-injective v u (sym at ∙ (ap (λ k. get_elem? views k) (sym same) ∙ to))

  -- a seat without the machine changed its view: who has the machine still has it
  pub still_out : (views : List V) (id : ℕ) (v w : V) → get_elem? views id ≡ some v → v.has_machine ≡ false → IsOut views
      → IsOut (set views id w)
  still_out views id v w at without out = dite (ℕ_discrete out.0 id)
      (λ same.
      let is : v ≡ out.1 = same_view views id out.0 v out.1 at out.2 same in
      absurd (not_both (sym without ∙ (ap (λ (x : V). x.has_machine) is ∙ out.3))))
      (λ apart. (out.0, out.1, set_else views id out.0 w apart ∙ out.2, out.3))

  -- no ticket stands in two views
  no_two : (s : St) (k : LockRule setup s) (i j ticket : ℕ) (v u : V) → i ≢ j → get_elem? s.views i ≡ some v → get_elem? s.views j ≡ some u
      → v.tickets ≡ ticket ∷ [] → u.tickets ≡ ticket ∷ [] → ⊥
  no_two s k i j ticket v u apart at to has too =
      let sum = k.tickets (at_only ticket) in
      let two = sum-two (λ (x : V). sum_by (at_only ticket) x.tickets) s.views i j v u apart at to in
      let one = one_at_most ticket k.serving k.queue in
      let here = at_only-here ticket in
      let first : sum_by (at_only ticket) v.tickets ≡ 0 + at_only ticket ticket = ap (sum_by (at_only ticket)) has in
      let second : sum_by (at_only ticket) u.tickets ≡ 0 + at_only ticket ticket = ap (sum_by (at_only ticket)) too in
      omega arith

  -- a ticket that stands in a view was drawn and is not served yet
  ticket_range : (s : St) (k : LockRule setup s) (i ticket : ℕ) (v : V) → get_elem? s.views i ≡ some v → v.tickets ≡ ticket ∷ []
      → (k.serving ≤ ticket) × (ticket < k.serving + k.queue)
  ticket_range s k i ticket v at has =
      let sum = k.tickets (at_only ticket) in
      let some_there = sum-one (λ (x : V). sum_by (at_only ticket) x.tickets) s.views i v at in
      let here = at_only-here ticket in
      let first : sum_by (at_only ticket) v.tickets ≡ 0 + at_only ticket ticket = ap (sum_by (at_only ticket)) has in
      in_range ticket k.serving k.queue (omega arith)

  -- no more wait than there are passes
  few_wait : (s : St) (k : LockRule setup s) → k.queue ≤ setup.passes
  few_wait s k =
      let tickets = k.tickets once in
      let numbers = k.numbers once in
      let queue = sum-once-range k.serving k.queue in
      let passes = sum-once-range 0 setup.passes in
      let less = sum-le (λ (x : V). sum_by once x.tickets) (λ (x : V). sum_by once (numbers_of x.claims)) s.views (λ j u at.
      let few = (k.views j u at).few in
      let a = sum-once u.tickets in
      let b = sum-once (numbers_of u.claims) in
      let c = length-map u.claims (λ (x : Claim E). x.number) in omega arith) in
      omega arith

  pub draws : (slots id : ℕ) (m : SeatState Root E) → m.0.tickets ≡ [] → m.0.has_machine ≡ false → length m.0.claims ≡ 1
      → Allows (LockRule setup) slots id m 0 (λ n. (n + 1) % 2 ^ 64) (DrawsTicket (step slots 0 1 0 maybe.none) m)
  draws slots id m free without one s k _ at _ =
      let v : V = m.0 in
      let ticket : ℕ = k.serving + k.queue in
      let w : V = with_ticket ticket v in
      let mine = k.views id v at in (
        w,
        keeps,
        tt,
        record {
          history = k.history;
          serving = k.serving;
          queue = suc k.queue;
          words = ap (λ ws. set ws 0 ((get_or ws 0 0 + 1) % 2 ^ 64)) k.words ∙ ap (λ n. n ∷ k.serving % 2 ^ 64 ∷ length k.history ∷ []) (omega arith);
          numbers = λ h. sum-same (λ (x : V). sum_by h (numbers_of x.claims)) s.views id v w at refl ∙ k.numbers h;
          tickets = λ h.
              let changed = sum-set (λ (x : V). sum_by h x.tickets) s.views id v w at in
              let before = k.tickets h in
              let none : sum_by h v.tickets ≡ 0 = ap (sum_by h) free in
              let more = sum-range-more h k.serving k.queue in
              omega arith;
          below = k.below;
          views = each_set (Agrees setup k.history k.serving s.homes) s.views id w
              record {
                setup_is = mine.setup_is;
                claims = mine.claims;
                few = omega arith;
                single = omega arith;
                seen = mine.seen;
                other_seen = mine.other_seen;
                serves = λ e. absurd (not_both (sym without ∙ e));
              }
              (λ j u _. k.views j u);
          machine = ⊎_elim (λ home. inl home) (λ out. inr (still_out s.views id v w at without out)) k.machine;
          bound = k.bound;
        },
        (ticket, ap (λ ws. get_or ws 0 0) k.words, refl),
      )

  -- a step that changes nothing
  no_change : (s : St) (k : LockRule setup s) (i id : ℕ) (cs : List (ℕ × Trail Root E)) (v : V) → get_elem? s.views id ≡ some v
      → LockRule setup (stepped s i (get_or s.words i 0) id cs v keeps)
  no_change s k i id cs v at =
      subst (λ (x : List ℕ × List V). LockRule setup record { words = x.0; homes = s.homes; views = x.1 })
      (λ j. (sym (set-get_or s.words i 0) j, sym (set_again s.views id v at) j)) k

  -- the seat whose turn it is finds the machine at home
  at_home : (s : St) (k : LockRule setup s) (id : ℕ) (v : V) → get_elem? s.views id ≡ some v → v.has_machine ≡ false
      → v.tickets ≡ k.serving ∷ [] → s.homes ≡ some (machine_after setup k.history) ∷ []
  at_home s k id v at without turn = ⊎_elim
      (λ home. home)
      (λ (out : IsOut s.views). dite (ℕ_discrete out.0 id)
      (λ same.
      let is : v ≡ out.1 = same_view s.views id out.0 v out.1 at out.2 same in
      absurd (not_both (sym without ∙ (ap (λ (x : V). x.has_machine) is ∙ out.3))))
      (λ apart.
      let theirs = (k.views out.0 out.1 out.2).serves out.3 in
      absurd (no_two s k id out.0 k.serving v out.1 (λ same. apart (sym same)) at out.2 turn theirs.turn)))
      k.machine

  -- the setup that a view has is the lock's
  same_setup : (o : Option (Setup (Trail Root E))) (P : Setup (Trail Root E) → Type 0) → IfSome o (λ x. x ≡ setup) → P setup → IfSome o P
  same_setup None P is here = tt
  same_setup (Some x) P is here = subst P (sym is) here

  takes_it : (slots id : ℕ) (m : SeatState Root E) (ticket : ℕ) (s : St) (k : LockRule setup s) → m.0.tickets ≡ ticket ∷ []
      → m.0.has_machine ≡ false → get_elem? s.views id ≡ some m.0 → ticket ≡ k.serving
      → (w : V) × (a : Act (Trail Root E)) × Valid s.homes m.1 a × LockRule setup (stepped s 1 (get_or s.words 1 0) id m.1 w a)
      × TakesMachine m (w, carried_after m.1 a)
  takes_it slots id m ticket s k has without at turn =
      let v : V = m.0 in
      let mine = k.views id v at in
      let w : V = with_machine k.history v in
      let machine : Trail Root E = machine_after setup k.history in
      let turned : v.tickets ≡ k.serving ∷ [] = has ∙ ap (λ t. t ∷ []) turn in
      let home = at_home s k id v at without turned in
      let out : set s.homes 0 maybe.none ≡ maybe.none ∷ [] = ap (λ hs. set hs 0 maybe.none) home in (
        w,
        takes 0 machine,
        ap (λ hs. get_elem? hs 0) home,
        subst (λ (ws : List ℕ). LockRule setup record { words = ws; homes = set s.homes 0 maybe.none; views = set s.views id w })
            (sym (set-get_or s.words 1 0)) record {
              history = k.history;
              serving = k.serving;
              queue = k.queue;
              words = k.words;
              numbers = λ h. sum-same (λ (x : V). sum_by h (numbers_of x.claims)) s.views id v w at refl ∙ k.numbers h;
              tickets = λ h. sum-same (λ (x : V). sum_by h x.tickets) s.views id v w at refl ∙ k.tickets h;
              below = k.below;
              views = each_set (Agrees setup k.history k.serving (set s.homes 0 maybe.none)) s.views id w
                  record {
                    setup_is = mine.setup_is;
                    claims = mine.claims;
                    few = mine.few;
                    single = mine.single;
                    seen = prefix_self k.history;
                    other_seen = mine.other_seen;
                    serves = λ _. record { out = out; turn = turned; all = refl };
                  }
                  (λ j u apart to. let theirs = k.views j u to in record {
                    setup_is = theirs.setup_is;
                    claims = theirs.claims;
                    few = theirs.few;
                    single = theirs.single;
                    seen = theirs.seen;
                    other_seen = theirs.other_seen;
                    serves = λ e. absurd (no_two s k id j k.serving v u (λ same. apart (sym same)) at to turned (theirs.serves e).turn);
                  });
              machine = inr (id, w, set_there s.views id w v at, refl);
              bound = k.bound;
            },
        (
          k.history,
          mine.seen,
          mine.claims,
          refl,
          same_setup v.setup
              (λ x. (0, machine) ∷ m.1 ≡ (0, machine_after x k.history) ∷ m.1) mine.setup_is refl,
        ),
      )

  pub looks : (slots id : ℕ) (m : SeatState Root E) (ticket : ℕ) → m.0.tickets ≡ ticket ∷ [] → m.0.has_machine ≡ false
      → Allows (LockRule setup) slots id m 1 (λ n. n) (LooksForTurn (step slots 1 0 0 maybe.none) m)
  looks slots id m ticket has without s k _ at _ =
      let v : V = m.0 in
      let range = ticket_range s k id ticket v at has in
      let few = few_wait s k in
      let bound = k.bound in
      let found : get_or s.words 1 0 ≡ k.serving % 2 ^ 64 = ap (λ ws. get_or ws 1 0) k.words in
      let same_ticket = λ (t : ℕ) (e : v.tickets ≡ t ∷ []). let is : ticket ∷ [] ≡ t ∷ [] = sym has ∙ e in let same : ticket ≡ t = cc in same in
      dite (ℕ_discrete (k.serving % 2 ^ 64) (ticket % 2 ^ 64))
      (λ e.
      let turn : k.serving ≡ ticket = one_turn k.serving ticket (2 ^ 64) range.0 (omega arith) e in
      let t = takes_it slots id m ticket s k has without at (sym turn) in
      (t.0, t.1, t.2, t.3, λ other is. ((λ _. t.4), λ ne. absurd (ne (found ∙ (e ∙ ap (λ n. n % 2 ^ 64) (same_ticket other is)))))))
      (λ ne. (
        v,
        keeps,
        tt,
        no_change s k 1 id m.1 v at,
        λ other is. (
          (λ e. absurd (ne (sym found ∙ (e ∙ sym (ap (λ n. n % 2 ^ 64) (same_ticket other is)))))),
          λ _. refl,
        ),
      ))

  -- the seat with the machine is the only one that may be served
  only_machine : (s : St) (k : LockRule setup s) (id j : ℕ) (v u : V) → get_elem? s.views id ≡ some v → v.has_machine ≡ true → j ≢ id
      → get_elem? s.views j ≡ some u → u.has_machine ≡ true → ⊥
  only_machine s k id j v u at has apart to too =
      let mine = (k.views id v at).serves has in
      let theirs = (k.views j u to).serves too in
      no_two s k id j k.serving v u (λ same. apart (sym same)) at to mine.turn theirs.turn

  -- a number of one view is below the number of passes
  is_below : (s : St) (k : LockRule setup s) (id number : ℕ) (mine : List E) (v : V) → get_elem? s.views id ≡ some v
      → v.claims ≡ claim number mine ∷ [] → number < setup.passes
  is_below s k id number mine v at claims =
      let sum = k.numbers (at_only number) in
      let here = at_only-here number in
      let some_there = sum-one (λ (x : V). sum_by (at_only number) (numbers_of x.claims)) s.views id v at in
      let first : sum_by (at_only number) (numbers_of v.claims) ≡ 0 + at_only number number =
      ap (λ cs. sum_by (at_only number) (numbers_of cs)) claims in
      let range = in_range number 0 setup.passes (omega arith) in omega arith

  -- and of no other view
  in_no_other : (s : St) (k : LockRule setup s) (id j number : ℕ) (mine : List E) (v u : V) → j ≢ id → get_elem? s.views id ≡ some v
      → get_elem? s.views j ≡ some u → v.claims ≡ claim number mine ∷ [] → sum_by (at_only number) (numbers_of u.claims) ≡ 0
  in_no_other s k id j number mine v u apart at to claims =
      let sum = k.numbers (at_only number) in
      let here = at_only-here number in
      let one = one_at_most number 0 setup.passes in
      let two = sum-two (λ (x : V). sum_by (at_only number) (numbers_of x.claims)) s.views j id u v apart to at in
      let first : sum_by (at_only number) (numbers_of v.claims) ≡ 0 + at_only number number =
      ap (λ cs. sum_by (at_only number) (numbers_of cs)) claims in
      omega arith

  -- one number enters events, and the machine in the slot has them
  adds : (slots id number : ℕ) (mine events : List E) (v : V) (machine : Trail Root E) (k : ℕ) → v.has_machine ≡ true
      → v.claims ≡ claim number mine ∷ [] → machine.events ≡ events_of v.seen ++ events → k ≡ length events
      → length machine.events < 2 ^ 64 → (s : St) → (r : LockRule setup s) → get_elem? s.views id ≡ some v
      → LockRule setup (stepped s 2 ((get_or s.words 2 0 + k) % 2 ^ 64) id ((0, machine) ∷ [])
      (record v { claims = claim number (mine ++ events) ∷ []; seen = v.seen ++ entries number events }) keeps)
  adds slots id number mine events v machine k has claims is long room s r at =
      let agrees = r.views id v at in
      let serves = agrees.serves has in
      let w : V = record v { claims = claim number (mine ++ events) ∷ []; seen = v.seen ++ entries number events } in
      let history : List (Entry E) = r.history ++ entries number events in
      let seen : w.seen ≡ history = ap (λ l. l ++ entries number events) serves.all in
      let same_numbers : numbers_of w.claims ≡ numbers_of v.claims = sym (ap numbers_of claims) in
      let mine_is : events_by number r.history ≡ mine = claims-head r.history (claim number mine) [] (subst (ClaimsHold r.history) claims agrees.claims) in
      let count : length r.history + k ≡ length history =
      let a = length-append r.history (entries number events) in
      let b = length-entries number events in omega arith in
      let fits : length r.history + k < 2 ^ 64 =
      let a = ap length is in
      let b = length-append (events_of v.seen) events in
      let c = length-events_of v.seen in
      let d = ap length serves.all in omega arith in
      let number_is = is_below s r id number mine v at claims in record {
        history = history;
        serving = r.serving;
        queue = r.queue;
        words = ap (λ ws. set ws 2 ((get_or ws 2 0 + k) % 2 ^ 64)) r.words
            ∙ ap (λ n. (r.serving + r.queue) % 2 ^ 64 ∷ r.serving % 2 ^ 64 ∷ n ∷ []) (omega arith);
        numbers = λ h. sum-same (λ (x : V). sum_by h (numbers_of x.claims)) s.views id v w at (ap (sum_by h) same_numbers) ∙ r.numbers h;
        tickets = λ h. sum-same (λ (x : V). sum_by h x.tickets) s.views id v w at refl ∙ r.tickets h;
        below = below-append setup.passes r.history (entries number events) r.below (below-entries setup.passes number events number_is);
        views = each_set (Agrees setup history r.serving s.homes) s.views id w
            record {
              setup_is = agrees.setup_is;
              claims = claims-cons history (claim number (mine ++ events)) [] (claim_more r.history number mine events mine_is) (claims-nil history);
              few = let a = ap length claims in let b = agrees.few in omega arith;
              single = agrees.single;
              seen = subst (IsPrefix w.seen) seen (prefix_self w.seen);
              other_seen = prefix_more v.other_seen r.history (entries number events) agrees.other_seen;
              serves = λ _. record { out = serves.out; turn = serves.turn; all = seen };
            }
            (λ j u apart to. let other = r.views j u to in record {
              setup_is = other.setup_is;
              claims = claims_stay r.history number events u.claims (in_no_other s r id j number mine v u apart at to claims) other.claims;
              few = other.few;
              single = other.single;
              seen = prefix_more u.seen r.history (entries number events) other.seen;
              other_seen = prefix_more u.other_seen r.history (entries number events) other.other_seen;
              serves = λ e. absurd (only_machine s r id j v u at has apart to e);
            });
        machine = inr (id, w, set_there s.views id w v at, has);
        bound = r.bound;
      }

  pub counts : (slots id number : ℕ) (mine events : List E) (m : SeatState Root E) (machine : Trail Root E) (k : ℕ) → m.0.has_machine ≡ true
      → m.0.claims ≡ claim number mine ∷ [] → m.1 ≡ (0, machine) ∷ [] → machine.events ≡ events_of m.0.seen ++ events → k ≡ length events
      → length machine.events < 2 ^ 64
      → Allows (LockRule setup) slots id m 2 (λ n. (n + k) % 2 ^ 64) (CountsEvents (step slots 2 k 0 maybe.none) m)
  counts slots id number mine events m machine k has claims slot is long room s r _ at _ =
      let v : V = m.0 in
      let w : V = record v { claims = claim number (mine ++ events) ∷ []; seen = v.seen ++ entries number events } in
      let long_is : length v.seen ≡ length (events_of v.seen) = sym (length-events_of v.seen) in
      let since : events_since v.seen m.1 ≡ events =
      ap (events_since v.seen) slot ∙ (ap (λ l. drop (length v.seen) l) is
      ∙ (ap (λ n. drop n (events_of v.seen ++ events)) long_is ∙ drop-append (events_of v.seen) events)) in (
        w,
        keeps,
        tt,
        subst (λ (cs : List (ℕ × Trail Root E)). LockRule setup (stepped s 2 ((get_or s.words 2 0 + k) % 2 ^ 64) id cs w keeps)) (sym slot)
            (adds slots id number mine events v machine k has claims is long room s r at),
        sym (ap (λ (x : List E × List (Claim E)). (with_events x.0 x.1 v, m.1)) (λ j. (since j, claims j))),
      )

  pub passes_on : (slots id : ℕ) (m : SeatState Root E) (machine : Trail Root E) → m.0.has_machine ≡ true → m.1 ≡ (0, machine) ∷ []
      → IfSome m.0.setup (λ x. machine ≡ machine_after x m.0.seen) → m.0.setup ≢ None
      → Allows (LockRule setup) slots id m 1 (λ n. (n + 1) % 2 ^ 64) (PassesTurn (step slots 1 1 0 maybe.none) m)
  passes_on slots id m machine has slot is there s r _ at _ =
      let v : V = m.0 in
      let w : V = after_turn v in
      let agrees = r.views id v at in
      let serves = agrees.serves has in
      let machine_is : machine ≡ machine_after setup r.history = whole v.setup v.seen r.history machine there agrees.setup_is is serves.all in
      let range = ticket_range s r id r.serving v at serves.turn in
      let left : ℕ = r.queue - 1 in
      let one_more : r.queue ≡ suc left = omega arith in
      let next : suc r.serving ≡ r.serving + 1 = omega arith in
      let homes : set s.homes 0 (some machine) ≡ some (machine_after setup r.history) ∷ [] =
      ap (λ hs. set hs 0 (some machine)) serves.out ∙ ap (λ x. some x ∷ []) machine_is in (
        w,
        gives,
        tt,
        subst (λ (cs : List (ℕ × Trail Root E)). LockRule setup (stepped s 1 ((get_or s.words 1 0 + 1) % 2 ^ 64) id cs w gives)) (sym slot) record {
          history = r.history;
          serving = suc r.serving;
          queue = left;
          words = ap (λ ws. set ws 1 ((get_or ws 1 0 + 1) % 2 ^ 64)) r.words
              ∙ (λ j. (first r.serving r.queue left one_more) j ∷ (second r.serving) j ∷ length r.history ∷ []);
          numbers = λ h. sum-same (λ (x : V). sum_by h (numbers_of x.claims)) s.views id v w at refl ∙ r.numbers h;
          tickets = λ h.
              let changed = sum-set (λ (x : V). sum_by h x.tickets) s.views id v w at in
              let before = r.tickets h ∙ ap (λ n. sum_by h (range_with_len r.serving n)) one_more in
              let mine : sum_by h v.tickets ≡ 0 + h r.serving = ap (sum_by h) serves.turn in
              let range = sum_by-cons h r.serving (range_with_len (r.serving + 1) left) in
              let after = ap (λ n. sum_by h (range_with_len n left)) next in
              omega arith;
          below = r.below;
          views = each_set (Agrees setup r.history (suc r.serving) (set s.homes 0 (some machine))) s.views id w
              record {
                setup_is = agrees.setup_is;
                claims = agrees.claims;
                few = omega arith;
                single = omega arith;
                seen = agrees.seen;
                other_seen = agrees.other_seen;
                serves = λ e. absurd (not_both e);
              }
              (λ j u apart to. let other = r.views j u to in record {
                setup_is = other.setup_is;
                claims = other.claims;
                few = other.few;
                single = other.single;
                seen = other.seen;
                other_seen = other.other_seen;
                serves = λ e. absurd (only_machine s r id j v u at has apart to e);
              });
          machine = inl homes;
          bound = r.bound;
        },
        ap (λ (cs : List (ℕ × Trail Root E)). (w, rest cs)) slot,
      )
    where
      whole : (o : Option (Setup (Trail Root E))) (seen history : List (Entry E)) (x : Trail Root E) → o ≢ None → IfSome o (λ y. y ≡ setup)
          → IfSome o (λ y. x ≡ machine_after y seen) → seen ≡ history → x ≡ machine_after setup history
      whole None seen history x some_setup same fits all = absurd (some_setup refl)
      whole (Some y) seen history x some_setup same fits all = fits ∙ λ j. machine_after (same j) (all j)

      first : (serving queue left : ℕ) → queue ≡ suc left → (serving + queue) % 2 ^ 64 ≡ (suc serving + left) % 2 ^ 64
      first serving queue left e = ap (λ n. n % 2 ^ 64) (omega arith)

      second : (serving : ℕ) → (serving % 2 ^ 64 + 1) % 2 ^ 64 ≡ suc serving % 2 ^ 64
      second serving = omega arith
