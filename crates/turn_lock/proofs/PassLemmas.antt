-- All passes of a lock are made of its first seat, and all are taken in again.
use Rattle.std.proofs.Common.{◌≡◌, ℕ, suc, ◌+◌, ◌-◌, ◌<◌, ◌≤◌, List, [], ◌∷◌, ◌++◌, map, length, false, Some, refl, sym, ap, ◌∙◌, subst, arith, append_assoc, append-nil, length-append}
use Rattle.std.specs.List.{All, Contains, range_with_len}
use mathlib.Core.List.{IsPrefix}
use mathlib.Core.Option.{some, some-injective}
use lib.ListN.{get_elem?}
use Rattle.std.proofs.lemmas.List.{length-map}
use Rattle.std.proofs.lemmas.List.FromFn.{length-range_with_len}
use Rattle.std.proofs.lemmas.List.Elements.{All-nil, All-cons, All-weaker, All-contains, Contains-append_left, Contains-append_right, All-head, All-tail}
use Rattle.trail_core.specs.Trail.{Trail}
use Rattle.atomic_table.specs.Seated.{TableId}
use Rattle.atomic_table.specs.Table.{Final}
use Rattle.atomic_table.specs.Table as tables
use Rattle.atomic_table.specs.declared.shared.Seat.{Seat}
use Rattle.turn_lock.specs.declared.rule.Setup.{Setup}
use Rattle.turn_lock.specs.declared.rule.Entry.{Entry}
use Rattle.turn_lock.specs.declared.rule.Claim.{Claim}
use Rattle.turn_lock.specs.declared.rule.SeatView.{SeatView}
use Rattle.turn_lock.specs.Histories.{events_by, AreBelow}
use Rattle.turn_lock.specs.Passes.{LockView, PassView, machine_at, fresh_pass, fresh_passes, AreAllPasses, Fits, IsHistory}
use Rattle.turn_lock.specs.Rule.{claim, ClaimsHold, fresh_claims, other_claims, LockRule}
use Rattle.turn_lock.specs.Steps.{SeatState, with_claims, both_views}
use Rattle.turn_lock.specs.Seats.{first_number, first_mine, lock_at, pass_of, first_pass, IsFree, Covers}
use Rattle.turn_lock.proofs.HistoryLemmas.{prefix_trans}
use Rattle.turn_lock.proofs.SeatLemmas.{one_claim}
use Rattle.turn_lock.proofs.TableLemmas.{Ends, ends}

range_step : (i n : ℕ) → i < n → range_with_len i (n - i) ≡ i ∷ range_with_len (i + 1) (n - (i + 1))
range_step i n more = let one : n - i ≡ suc (n - (i + 1)) = omega arith in ap (range_with_len i) one

has_first : {E : Type 0} (cs : List (Claim E)) → length cs ≡ 1 → Contains cs (claim (first_number cs) (first_mine cs))
has_first cs one = subst (λ l. Contains l (claim (first_number cs) (first_mine cs))) (sym (one_claim cs one)) (0, omega arith, refl)

module _ {Root E : Type 0} where
  -- passes of a lock were made of its first seat, and the rest of that has the other numbers
  pub record Deals (lock : LockView Root) (first rest : Seat (Trail Root E) (SeatView (Trail Root E) E)) (number : ℕ)
      (front : List (PassView Root E)) : Type 0 where
    pub same_table : rest.table_id ≡ first.table_id
    pub same_setup : rest.me.0.setup ≡ first.me.0.setup
    pub free : IsFree rest.me
    pub nothing_seen : rest.me.0.seen ≡ []
    pub claims : rest.me.0.claims ≡ fresh_claims number (lock.passes - number)
    pub all : front ++ map (fresh_pass lock) (range_with_len number (lock.passes - number)) ≡ fresh_passes lock
    pub long : length front ≡ number

  pub deals_none : (lock : LockView Root) (first : Seat (Trail Root E) (SeatView (Trail Root E) E)) → IsFree first.me
      → first.me.0.claims ≡ fresh_claims 0 lock.passes → first.me.0.seen ≡ [] → Deals lock first first 0 []
  deals_none lock first free claims seen =
      let same : lock.passes ≡ lock.passes - 0 = omega arith in record {
        same_table = refl;
        same_setup = refl;
        free = free;
        nothing_seen = seen;
        claims = claims ∙ ap (fresh_claims 0) same;
        all = ap (λ n. map (fresh_pass lock) (range_with_len 0 n)) (sym same);
        long = refl;
      }

  pub some_left : (lock : LockView Root) (first rest : Seat (Trail Root E) (SeatView (Trail Root E) E)) (number : ℕ)
      (front : List (PassView Root E)) → Deals lock first rest number front → number < lock.passes → 0 < length rest.me.0.claims
  some_left lock first rest number front d more =
      let range = range_step number lock.passes more in
      let a = ap length (d.claims ∙ ap (map (λ n. claim {E = E} n [])) range) in omega arith

  pub deals_one : (lock : LockView Root) (first rest rest' : Seat (Trail Root E) (SeatView (Trail Root E) E)) (number : ℕ)
      (front : List (PassView Root E)) (pass : PassView Root E) → Deals lock first rest number front → number < lock.passes
      → rest'.table_id ≡ rest.table_id → rest'.me ≡ (with_claims (other_claims rest.me.0.claims) rest.me.0, [])
      → pass ≡ first_pass lock rest.me.0 → Deals lock first rest' (number + 1) (front ++ pass ∷ [])
  deals_one lock first rest rest' number front pass d more same is pass_is =
      let range = range_step number lock.passes more in
      let claims = d.claims ∙ ap (map (λ n. claim {E = E} n [])) range in
      let others = lock.passes - (number + 1) in
      let new : pass ≡ fresh_pass lock number =
      pass_is ∙ λ j. record { lock = Some lock; number = first_number (claims j); seen = d.nothing_seen j; mine = first_mine (claims j) } in record {
        same_table = same ∙ d.same_table;
        same_setup = ap (λ (m : SeatState Root E). m.0.setup) is ∙ d.same_setup;
        free = record {
          no_ticket = ap (λ (m : SeatState Root E). m.0.tickets) is ∙ d.free.no_ticket;
          no_machine = ap (λ (m : SeatState Root E). m.0.has_machine) is ∙ d.free.no_machine;
          no_slot = ap (λ (m : SeatState Root E). m.1) is;
        };
        nothing_seen = ap (λ (m : SeatState Root E). m.0.seen) is ∙ d.nothing_seen;
        claims = ap (λ (m : SeatState Root E). m.0.claims) is ∙ ap other_claims claims;
        all = append_assoc front (pass ∷ []) (map (fresh_pass lock) (range_with_len (number + 1) others))
            ∙ (ap (λ p. front ++ p ∷ map (fresh_pass lock) (range_with_len (number + 1) others)) new
            ∙ (ap (λ l. front ++ map (fresh_pass lock) l) (sym range) ∙ d.all));
        long = let a = length-append front (pass ∷ []) in let b = d.long in omega arith;
      }

  pub deals_all : (lock : LockView Root) (first rest : Seat (Trail Root E) (SeatView (Trail Root E) E)) (number : ℕ)
      (front : List (PassView Root E)) → Deals lock first rest number front → lock.passes ≤ number → front ≡ fresh_passes lock
  deals_all lock first rest number front d end =
      let none : 0 ≡ lock.passes - number = omega arith in
      sym (append-nil front) ∙ (ap (λ n. front ++ map (fresh_pass lock) (range_with_len number n)) none ∙ d.all)

  -- as many passes were made as their numbers say
  pub as_many : (lock : LockView Root) (passes : List (PassView Root E)) → AreAllPasses lock passes → length passes ≡ lock.passes
  as_many lock passes are =
      sym (length-map passes (λ (p : PassView Root E). p.number)) ∙ (ap length are.numbers ∙ length-range_with_len 0 lock.passes)

  -- of some passes these are left, and the keeper took in the others
  pub record Gathers (lock : LockView Root) (first keeper : Seat (Trail Root E) (SeatView (Trail Root E) E)) (all left : List (PassView Root E))
      : Type 0 where
    pub same_table : keeper.table_id ≡ first.table_id
    pub same_id : keeper.id ≡ first.id
    pub no_machine : keeper.me.0.has_machine ≡ false
    pub no_slot : keeper.me.1 ≡ []
    pub others : List (PassView Root E)
    pub all_is : all ≡ left ++ others
    pub covers : Covers keeper.me.0.seen keeper.me.0.claims others
    pub long : length keeper.me.0.claims ≡ length others

  pub gathers_none : (lock : LockView Root) (first : Seat (Trail Root E) (SeatView (Trail Root E) E)) (all : List (PassView Root E))
      → first.me.0.claims ≡ [] → IsFree first.me → Gathers lock first first all all
  gathers_none lock first all claims free = record {
    same_table = refl;
    same_id = refl;
    no_machine = free.no_machine;
    no_slot = free.no_slot;
    others = [];
    all_is = sym (append-nil all);
    covers = All-nil (λ p. IsPrefix p.seen first.me.0.seen × Contains first.me.0.claims (claim p.number p.mine));
    long = ap length claims;
  }

  all_last : (lock : LockView Root) (front others : List (PassView Root E)) (p : PassView Root E)
      → All (λ q. q.lock ≡ Some lock) ((front ++ p ∷ []) ++ others) → p.lock ≡ Some lock
  all_last lock [] others p all = All-head (λ q. q.lock ≡ Some lock) p others all
  all_last lock (q ∷ front) others p all =
      all_last lock front others p (All-tail (λ (x : PassView Root E). x.lock ≡ Some lock) q ((front ++ p ∷ []) ++ others) all)

  -- the last pass that is left is of the lock
  pub last_lock : (lock : LockView Root) (first keeper : Seat (Trail Root E) (SeatView (Trail Root E) E)) (all left front : List (PassView Root E))
      (p : PassView Root E) → Gathers lock first keeper all left → All (λ q. q.lock ≡ Some lock) all → left ≡ front ++ p ∷ []
      → p.lock ≡ Some lock
  last_lock lock first keeper all left front p d of is =
      all_last lock front d.others p (subst (All (λ (q : PassView Root E). q.lock ≡ Some lock)) (d.all_is ∙ ap (λ l. l ++ d.others) is) of)

  covers_more : (history longer : List (Entry E)) (cs ds : List (Claim E)) (passes : List (PassView Root E)) → IsPrefix history longer
      → Covers history cs passes → Covers longer (cs ++ ds) passes
  covers_more history longer cs ds passes more = All-weaker
      (λ p. IsPrefix p.seen history × Contains cs (claim p.number p.mine))
      (λ p. IsPrefix p.seen longer × Contains (cs ++ ds) (claim p.number p.mine))
      (λ p one. (prefix_trans p.seen history longer one.0 more, Contains-append_left cs ds (claim p.number p.mine) one.1)) passes

  pub gathers_one : (lock : LockView Root) (first keeper keeper' seat : Seat (Trail Root E) (SeatView (Trail Root E) E))
      (all left front : List (PassView Root E)) (p : PassView Root E) → Gathers lock first keeper all left → left ≡ front ++ p ∷ []
      → keeper'.table_id ≡ keeper.table_id → keeper'.id ≡ keeper.id → pass_of seat ≡ p → length seat.me.0.claims ≡ 1
      → IsPrefix keeper.me.0.seen keeper'.me.0.seen → IsPrefix seat.me.0.seen keeper'.me.0.seen
      → keeper'.me ≡ (record (both_views keeper.me.0 seat.me.0) { seen = keeper'.me.0.seen }, []) → Gathers lock first keeper' all front
  gathers_one lock first keeper keeper' seat all left front p d is table id by one more theirs me_is =
      let claims : keeper'.me.0.claims ≡ keeper.me.0.claims ++ seat.me.0.claims = ap (λ (m : SeatState Root E). m.0.claims) me_is in
      let saw : IsPrefix p.seen keeper'.me.0.seen = subst (λ (x : PassView Root E). IsPrefix x.seen keeper'.me.0.seen) by theirs in
      let has : Contains seat.me.0.claims (claim p.number p.mine) =
      subst (λ (x : PassView Root E). Contains seat.me.0.claims (claim x.number x.mine)) by (has_first seat.me.0.claims one) in
      let has_both = Contains-append_right keeper.me.0.claims seat.me.0.claims (claim p.number p.mine) has in
      let before = covers_more keeper.me.0.seen keeper'.me.0.seen keeper.me.0.claims seat.me.0.claims d.others more d.covers in record {
        same_table = table ∙ d.same_table;
        same_id = id ∙ d.same_id;
        no_machine = ap (λ (m : SeatState Root E). m.0.has_machine) me_is ∙ d.no_machine;
        no_slot = ap (λ (m : SeatState Root E). m.1) me_is;
        others = p ∷ d.others;
        all_is = d.all_is ∙ (ap (λ l. l ++ d.others) is ∙ append_assoc front (p ∷ []) d.others);
        covers = subst (λ cs. Covers keeper'.me.0.seen cs (p ∷ d.others)) (sym claims)
            (All-cons (λ q. IsPrefix q.seen keeper'.me.0.seen × Contains (keeper.me.0.claims ++ seat.me.0.claims) (claim q.number q.mine))
            p d.others (saw, has_both) before);
        long = let a = ap length claims in let b = length-append keeper.me.0.claims seat.me.0.claims in let c = d.long in omega arith;
      }

  pub gathers_all : (lock : LockView Root) (first keeper : Seat (Trail Root E) (SeatView (Trail Root E) E)) (all left : List (PassView Root E))
      → Gathers lock first keeper all left → left ≡ [] → Covers keeper.me.0.seen keeper.me.0.claims all
  gathers_all lock first keeper all left d none =
      subst (Covers keeper.me.0.seen keeper.me.0.claims) (sym (d.all_is ∙ ap (λ l. l ++ d.others) none)) d.covers

  -- each pass fits a history that begins with what the keeper saw
  all_fit : (seen history : List (Entry E)) (cs : List (Claim E)) (passes : List (PassView Root E)) → IsPrefix seen history
      → ClaimsHold history cs → Covers seen cs passes → All (Fits history) passes
  all_fit seen history cs passes more claims = All-weaker
      (λ p. IsPrefix p.seen seen × Contains cs (claim p.number p.mine))
      (Fits history)
      (λ p one. record {
        seen = prefix_trans p.seen seen history one.0 more;
        mine = All-contains (λ (c : Claim E). events_by c.number history ≡ c.mine) cs (claim p.number p.mine) claims one.1;
      }) passes

  -- the one history of a closed lock
  one_history : (setup : Setup (Trail Root E)) (table : TableId) (lock : LockView Root) (v : SeatView (Trail Root E) E)
      (machine : Trail Root E) (passes : List (PassView Root E)) → lock_at table setup ≡ lock → Ends setup v machine
      → Covers v.seen v.claims passes → IsHistory lock machine passes
  one_history setup table lock v machine passes is d covers = record {
    history = d.history;
    machine_is = d.machine_is ∙ ap (λ (l : LockView Root). machine_at l d.history) is;
    fit = all_fit v.seen d.history v.claims passes d.seen d.claims covers;
    numbers = subst (λ (l : LockView Root). AreBelow l.passes d.history) is d.below;
  }

  -- what comes out of the slot of a closed lock
  pub closes : (setup : Setup (Trail Root E)) (table : TableId) (lock : LockView Root) (id : ℕ) (v : SeatView (Trail Root E) E)
      (words : List ℕ) (slots : List (Trail Root E)) (found : Trail Root E) (passes : List (PassView Root E)) → lock_at table setup ≡ lock
      → AreAllPasses lock passes → v.has_machine ≡ false → length v.claims ≡ length passes → Covers v.seen v.claims passes
      → Final (tables.Seen (LockRule setup) id v) words slots → get_elem? slots 0 ≡ some found → IsHistory lock found passes
  closes setup table lock id v words slots found passes is are without many covers final there =
      let same : setup.passes ≡ lock.passes = ap (λ (l : LockView Root). l.passes) is in
      let count = as_many lock passes are in
      let e = ends setup id v words slots without (omega arith) final in
      let found_is : e.0 ≡ found = some-injective e.0 found (sym e.1 ∙ there) in
      subst (λ (m : Trail Root E). IsHistory lock m passes) found_is (one_history setup table lock v e.0 passes is e.2 covers)
