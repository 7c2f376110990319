-- A table is made, its seats are split and joined, and it is closed: each keeps the rule.
use Rattle.std.proofs.Common.{◌≡◌, ℕ, zero, suc, ◌+◌, ◌^◌, ◌<◌, List, [], ◌∷◌, ◌++◌, length, set, false, refl, sym, ap, ◌∙◌, subst, inl, inr, ⊎_elim, arith, length-append}
use Rattle.std.specs.List.{sum_by, range_with_len}
use mathlib.Core.Logic.{dite}
use native.Mathlib.Decide.{ℕ_discrete}
use mathlib.Core.List.{IsPrefix}
use mathlib.Core.Option.{some, some-injective, some-ne-none}
use mathlib.Core.Option as maybe
use lib.ListN.{get_elem?}
use lib.Seq.{set-get_or}
use Rattle.std.proofs.lemmas.List.{map-append, length-map}
use Rattle.std.proofs.lemmas.List.Sums.{sum_by-cons, sum_by_push, sum_by-append}
use Rattle.std.proofs.lemmas.List.Elements.{All-nil}
use Rattle.trail_core.specs.Trail.{Trail}
use Rattle.atomic_table.specs.Table.{State, step, keeps, opening, Allows, Splits, Joins, Enters, Final, Seen}
use Rattle.atomic_table.proofs.Lists.{at_snoc, at_longer, set_else}
use Rattle.turn_lock.specs.declared.rule.Setup.{Setup}
use Rattle.turn_lock.specs.declared.rule.Entry.{Entry}
use Rattle.turn_lock.specs.declared.rule.Claim.{Claim}
use Rattle.turn_lock.specs.declared.rule.SeatView.{SeatView}
use Rattle.turn_lock.specs.Histories.{AreBelow}
use Rattle.turn_lock.specs.Rule.{numbers_of, ClaimsHold, first_claim, other_claims, machine_after, first_view, Agrees, IsOut, LockRule}
use Rattle.turn_lock.specs.Steps.{SeatState, with_claims, new_view, both_views, empty_view, Comes, SeesHistory}
use Rattle.turn_lock.proofs.SumLemmas.{sum-set, sum-same, sum-two, once, sum-once, sum-once-range}
use Rattle.turn_lock.proofs.HistoryLemmas.{prefix_self, prefix_none, claims-nil, claims-cons, claims-head, claims-tail, claims-append, claims-fresh, numbers-fresh}
use Rattle.turn_lock.proofs.StepLemmas.{not_both, same_view, each_set, still_out}

module _ {Root E : Type 0} (setup : Setup (Trail Root E)) where
  abbrev V : Type 0
  V = SeatView (Trail Root E) E

  abbrev St : Type 0
  St = State (Trail Root E) V

  -- a new table keeps the rule
  opens : (machine : Trail Root E) → setup.machine.value ≡ machine → machine.events ≡ [] → setup.passes < 2 ^ 8
      → LockRule setup (opening (0 ∷ 0 ∷ 0 ∷ []) (machine ∷ []) (first_view setup))
  opens machine is fresh few = record {
    history = [];
    serving = 0;
    queue = 0;
    words = refl;
    numbers = λ h. sum_by-cons (λ (x : V). sum_by h (numbers_of x.claims)) (first_view setup) [] ∙ all h;
    tickets = λ h. refl;
    below = All-nil (λ (e : Entry E). e.number < setup.passes);
    views = one;
    machine = inl (λ j. some (same j) ∷ []);
    bound = few;
  }
    where
      all : (h : ℕ → ℕ) → sum_by h (numbers_of (first_view setup).claims) + 0 ≡ sum_by h (range_with_len 0 setup.passes)
      all h = let same = ap (sum_by h) (numbers-fresh E 0 setup.passes) in omega arith

      one : (j : ℕ) (v : V) → get_elem? (first_view setup ∷ []) j ≡ some v → Agrees setup [] 0 (some machine ∷ []) v
      one zero v at = subst (Agrees setup [] 0 (some machine ∷ [])) (some-injective (first_view setup) v at) record {
        setup_is = refl;
        claims = claims-fresh E 0 setup.passes;
        few = omega arith;
        single = omega arith;
        seen = prefix_self [];
        other_seen = prefix_self [];
        serves = λ e. absurd (not_both e);
      }
      one (suc j) v at = absurd (some-ne-none v (sym at))

      same : machine ≡ machine_after setup []
      same = λ j. record { root = (sym is j).root; most = (sym is j).most; events = fresh j }

  pub opens_with : (machine : Trail Root E) (old slots : List (Trail Root E)) → slots ≡ old ++ machine ∷ [] → old ≡ []
      → setup.machine.value ≡ machine → machine.events ≡ [] → setup.passes < 2 ^ 8
      → LockRule setup (opening (0 ∷ 0 ∷ 0 ∷ []) slots (first_view setup))
  opens_with machine old slots is none same fresh few =
      subst (λ (xs : List (Trail Root E)). LockRule setup (opening (0 ∷ 0 ∷ 0 ∷ []) xs (first_view setup)))
      (sym (is ∙ ap (λ l. l ++ machine ∷ []) none)) (opens machine same fresh few)

  -- a seat gives some of its claims to a new seat
  splits_by : (id : ℕ) (v : V) (cs ds : List (Claim E)) → v.tickets ≡ [] → v.has_machine ≡ false
      → ((h : ℕ → ℕ) → sum_by h (numbers_of v.claims) ≡ sum_by h (numbers_of cs) + sum_by h (numbers_of ds))
      → ((history : List (Entry E)) → ClaimsHold history v.claims → ClaimsHold history cs × ClaimsHold history ds)
      → Splits (LockRule setup) id v (with_claims cs v) (new_view ds v)
  splits_by id v cs ds free without weights halves s k at =
      let left : V = with_claims cs v in
      let right : V = new_view ds v in
      let views : List V = set s.views id left in
      let mine = k.views id v at in
      let both = halves k.history mine.claims in
      let old : (j : ℕ) (u : V) → get_elem? views j ≡ some u → Agrees setup k.history k.serving s.homes u =
      each_set setup (Agrees setup k.history k.serving s.homes) s.views id left
      record {
        setup_is = mine.setup_is;
        claims = both.0;
        few = let a = ap length free in omega arith;
        single = let a = ap length free in omega arith;
        seen = mine.seen;
        other_seen = mine.other_seen;
        serves = λ e. absurd (not_both (sym without ∙ e));
      }
      (λ j u _. k.views j u) in
      let new : Agrees setup k.history k.serving s.homes right = record {
        setup_is = mine.setup_is;
        claims = both.1;
        few = omega arith;
        single = omega arith;
        seen = mine.seen;
        other_seen = prefix_none k.history;
        serves = λ e. absurd (not_both e);
      } in record {
        history = k.history;
        serving = k.serving;
        queue = k.queue;
        words = k.words;
        numbers = λ h.
            let f = λ (x : V). sum_by h (numbers_of x.claims) in
            let a = sum_by_push f views right in
            let b = sum-set f s.views id v left at in
            let c = k.numbers h in
            let d = weights h in omega arith;
        tickets = λ h.
            let f = λ (x : V). sum_by h x.tickets in
            let a = sum_by_push f views right in
            let b = sum-set f s.views id v left at in
            let c = k.tickets h in
            let none : sum_by h right.tickets ≡ 0 = refl in omega arith;
        below = k.below;
        views = λ j u at'. ⊎_elim (λ there. old j u there) (λ (is : right ≡ u). subst (Agrees setup k.history k.serving s.homes) is new)
            (at_snoc views right u j at');
        machine = ⊎_elim (λ home. inl home) (λ out.
            let o = still_out setup s.views id v left at without out in
            inr (o.0, o.1, at_longer views (right ∷ []) o.0 o.1 o.2, o.3)) k.machine;
        bound = k.bound;
      }

  -- a new seat gets the first number
  pub splits : (id : ℕ) (v : V) → v.tickets ≡ [] → v.has_machine ≡ false
      → Splits (LockRule setup) id v (with_claims (other_claims v.claims) v) (new_view (first_claim v.claims) v)
  splits id v free without = splits_by id v (other_claims v.claims) (first_claim v.claims) free without (weights v.claims) (halves v.claims)
    where
      weights : (cs : List (Claim E)) (h : ℕ → ℕ)
          → sum_by h (numbers_of cs) ≡ sum_by h (numbers_of (other_claims cs)) + sum_by h (numbers_of (first_claim cs))
      weights [] h = refl
      weights (c ∷ cs) h =
          let all = sum_by-cons h c.number (numbers_of cs) in
          let one = sum_by-cons h c.number [] in
          let none : sum_by h [] ≡ 0 = refl in omega arith

      halves : (cs : List (Claim E)) (history : List (Entry E)) → ClaimsHold history cs
          → ClaimsHold history (other_claims cs) × ClaimsHold history (first_claim cs)
      halves [] history all = (claims-nil history, claims-nil history)
      halves (c ∷ cs) history all =
          (claims-tail history c cs all, claims-cons history c [] (claims-head history c cs all) (claims-nil history))

  -- a new seat without a number has seen as much
  pub tells : (id : ℕ) (v : V) → v.tickets ≡ [] → v.has_machine ≡ false
      → Splits (LockRule setup) id v (with_claims v.claims v) (new_view [] v)
  tells id v free without =
      splits_by id v v.claims [] free without (λ h. let none : sum_by h [] ≡ 0 = refl in omega arith) (λ history all. (all, claims-nil history))

  -- a seat takes in another
  pub joins : (id : ℕ) (v : V) (other : ℕ) (w : V) → v.has_machine ≡ false → w.tickets ≡ [] → w.has_machine ≡ false
      → Joins (LockRule setup) id v other w (both_views v w) empty_view
  joins id v other w without free without' s k at apart at' =
      let both : V = both_views v w in
      let views : List V = set s.views id both in
      let mine = k.views id v at in
      let there : get_elem? s.views other ≡ some w = sym (set_else s.views id other both apart) ∙ at' in
      let theirs = k.views other w there in
      let all : (j : ℕ) (u : V) → get_elem? views j ≡ some u → Agrees setup k.history k.serving s.homes u =
      each_set setup (Agrees setup k.history k.serving s.homes) s.views id both
      record {
        setup_is = mine.setup_is;
        claims = claims-append k.history v.claims w.claims mine.claims theirs.claims;
        few = let a = length-append v.claims w.claims in let b = mine.few in omega arith;
        single = mine.single;
        seen = mine.seen;
        other_seen = theirs.seen;
        serves = λ e. absurd (not_both (sym without ∙ e));
      }
      (λ j u _. k.views j u) in record {
        history = k.history;
        serving = k.serving;
        queue = k.queue;
        words = k.words;
        numbers = λ h.
            let f = λ (x : V). sum_by h (numbers_of x.claims) in
            let a = sum-set f s.views id v both at in
            let b = sum-set f views other w empty_view at' in
            let c = k.numbers h in
            let d = ap (sum_by h) (map-append (λ (x : Claim E). x.number) v.claims w.claims) ∙ sum_by-append h (numbers_of v.claims) (numbers_of w.claims) in
            let none : sum_by h [] ≡ 0 = refl in omega arith;
        tickets = λ h.
            let f = λ (x : V). sum_by h x.tickets in
            let a = sum-set f s.views id v both at in
            let b = sum-set f views other w empty_view at' in
            let c = k.tickets h in
            let d = ap (sum_by h) free in
            let none : sum_by h [] ≡ 0 = refl in omega arith;
        below = k.below;
        views = each_set setup (Agrees setup k.history k.serving s.homes) views other empty_view
            record {
              setup_is = tt;
              claims = claims-nil k.history;
              few = omega arith;
              single = omega arith;
              seen = prefix_none k.history;
              other_seen = prefix_none k.history;
              serves = λ e. absurd (not_both e);
            }
            (λ j u _. all j u);
        machine = ⊎_elim (λ home. inl home) (λ out.
            inr (still_out setup views other w empty_view at' without' (still_out setup s.views id v both at without out))) k.machine;
        bound = k.bound;
      }

  -- a seat sees the whole history
  pub sees : (slots id : ℕ) (m : SeatState Root E) → m.0.has_machine ≡ false
      → Allows (LockRule setup) slots id m 2 (λ n. n) (SeesHistory (step slots 2 0 0 maybe.none) m)
  sees slots id m without s k _ at _ =
      let v : V = m.0 in
      let w : V = record v { seen = k.history } in
      let mine = k.views id v at in (
        w,
        keeps,
        tt,
        subst (λ (ws : List ℕ). LockRule setup record { words = ws; homes = s.homes; views = set s.views id w }) (sym (set-get_or s.words 2 0))
            record {
              history = k.history;
              serving = k.serving;
              queue = k.queue;
              words = k.words;
              numbers = λ h. sum-same (λ (x : V). sum_by h (numbers_of x.claims)) s.views id v w at refl ∙ k.numbers h;
              tickets = λ h. sum-same (λ (x : V). sum_by h x.tickets) s.views id v w at refl ∙ k.tickets h;
              below = k.below;
              views = each_set setup (Agrees setup k.history k.serving s.homes) s.views id w
                  record {
                    setup_is = mine.setup_is;
                    claims = mine.claims;
                    few = mine.few;
                    single = mine.single;
                    seen = prefix_self k.history;
                    other_seen = mine.other_seen;
                    serves = λ e. absurd (not_both (sym without ∙ e));
                  }
                  (λ j u _. k.views j u);
              machine = ⊎_elim (λ home. inl home) (λ out. inr (still_out setup s.views id v w at without out)) k.machine;
              bound = k.bound;
            },
        (mine.seen, mine.other_seen, mine.claims, refl),
      )

  -- a seat comes without a number
  pub comes : (slots : ℕ) → Enters (LockRule setup) slots 2 (λ n w. Comes (step slots 2 0 0 maybe.none) (first_view setup, []) n (w, []))
  comes slots s k _ _ =
      let w : V = with_claims [] (first_view setup) in
      let new : Agrees setup k.history k.serving s.homes w = record {
        setup_is = refl;
        claims = claims-nil k.history;
        few = omega arith;
        single = omega arith;
        seen = prefix_none k.history;
        other_seen = prefix_none k.history;
        serves = λ e. absurd (not_both e);
      } in (
        w,
        record {
          history = k.history;
          serving = k.serving;
          queue = k.queue;
          words = k.words;
          numbers = λ h.
              let a = sum_by_push (λ (x : V). sum_by h (numbers_of x.claims)) s.views w in
              let b = k.numbers h in
              let none : sum_by h [] ≡ 0 = refl in omega arith;
          tickets = λ h.
              let a = sum_by_push (λ (x : V). sum_by h x.tickets) s.views w in
              let b = k.tickets h in
              let none : sum_by h [] ≡ 0 = refl in omega arith;
          below = k.below;
          views = λ j u at. ⊎_elim (λ there. k.views j u there) (λ (is : w ≡ u). subst (Agrees setup k.history k.serving s.homes) is new)
              (at_snoc s.views w u j at);
          machine = ⊎_elim (λ home. inl home)
              (λ (out : IsOut s.views). inr (out.0, out.1, at_longer s.views (w ∷ []) out.0 out.1 out.2, out.3)) k.machine;
          bound = k.bound;
        },
        refl,
      )

  -- at the end one seat has every number, and the machine is at home
  pub record Ends (v : V) (machine : Trail Root E) : Type 0 where
    pub history : List (Entry E)
    pub machine_is : machine ≡ machine_after setup history
    pub seen : IsPrefix v.seen history
    pub claims : ClaimsHold history v.claims
    pub below : AreBelow setup.passes history

  pub ends : (id : ℕ) (v : V) (ws : List ℕ) (xs : List (Trail Root E)) → v.has_machine ≡ false → length v.claims ≡ setup.passes
      → Final (Seen (LockRule setup) id v) ws xs → (machine : Trail Root E) × (get_elem? xs 0 ≡ some machine) × Ends v machine
  ends id v ws xs without all final =
      let s = final.0 in
      let k = final.1.0 in
      let at = final.1.1 in
      let mine = k.views id v at in
      let machine : Trail Root E = machine_after setup k.history in
      let home : s.homes ≡ some machine ∷ [] = ⊎_elim (λ h. h) (λ (out : IsOut s.views). absurd (nobody s k at out)) k.machine in (
        machine,
        final.4 0 machine (ap (λ hs. get_elem? hs 0) home),
        record { history = k.history; machine_is = refl; seen = mine.seen; claims = mine.claims; below = k.below },
      )
    where
      nobody : (s : St) (k : LockRule setup s) → get_elem? s.views id ≡ some v → IsOut s.views → ⊥
      nobody s k at out = dite (ℕ_discrete out.0 id)
          (λ same.
          let is : v ≡ out.1 = same_view setup s.views id out.0 v out.1 at out.2 same in
          not_both (sym without ∙ (ap (λ (x : V). x.has_machine) is ∙ out.3)))
          (λ apart.
          let u = out.1 in
          let other = k.views out.0 u out.2 in
          let turn = (other.serves out.3).turn in
          let some_ticket = ap length turn in
          let few = other.few in
          let two = sum-two (λ (x : V). sum_by once (numbers_of x.claims)) s.views id out.0 v u (λ same. apart (sym same)) at out.2 in
          let a = sum-once (numbers_of v.claims) in
          let b = sum-once (numbers_of u.claims) in
          let c = length-map v.claims (λ (x : Claim E). x.number) in
          let d = length-map u.claims (λ (x : Claim E). x.number) in
          let sum = k.numbers once in
          let passes = sum-once-range 0 setup.passes in omega arith)
