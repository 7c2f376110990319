-- What a source gave, and how a run of it ends.
use Rattle.std.proofs.Common.{◌≡◌, ℕ, List, [], ◌++◌, take, Some, None, Option, Ok, Err, inr, refl, sym, ◌∙◌, append-nil, subst}
use Rattle.edge_io.specs.Outside.{Gave, Appended}
use Rattle.script_model.specs.Script.{Output}
use Rattle.tty_host.specs.declared.run.Stop.{Stop}
use Rattle.tty_host.specs.declared.run.Stop.TheVariants.{BadLine, Full, Failed, NoMemory}
use Rattle.tty_host.specs.declared.status.Status.{Status}
use Rattle.tty_host.specs.declared.status.Status.TheVariants as status
use Rattle.tty_host.specs.Outputs.{Keeps, status_alone, Goes}
use Rattle.tty_host.specs.Ends.{code_of, stop_status, WroteAll, Writes}

-- what a read took from the front of what was left
pub record Took (rest : List ℕ) (after : Option (List ℕ)) (into : List ℕ) (n : ℕ) : Type 0 where
  pub left : List ℕ
  pub is : after ≡ Some left
  pub whole : rest ≡ take n into ++ left
  pub none : n ≡ 0 → rest ≡ []

pub gave-took : (before after : Option (List ℕ)) (into : List ℕ) (n : ℕ) (rest : List ℕ) → before ≡ Some rest → Gave before after into n
    → Took rest after into n
gave-took None after into n rest e h = cc
gave-took (Some bytes) None into n rest e h = absurd h
gave-took (Some bytes) (Some r) into n rest e h =
    let same : bytes ≡ rest = cc in
    record { left = r; is = refl; whole = sym same ∙ h.0; none = λ z. sym same ∙ h.1 z }

-- all that was to come was written
pub wrote-all : (s : Status) (a b : Option (List ℕ)) (x : Output) → Keeps a x b (status_alone (code_of s)) → WroteAll s x a b
wrote-all s a b x h = record {
  appended = subst (λ bs. Appended a b bs) (sym (h.bytes ∙ append-nil h.wrote)) h.appended;
  code = h.status;
}

pub writes-stop : (s : Stop) (a b : Option (List ℕ)) (x y : Output) → Goes (Err s) a x b y → Writes (stop_status s) x a b
unfolding Goes
writes-stop BadLine a b x y h = wrote-all status.Input a b x h
writes-stop Full a b x y h = wrote-all status.Full a b x h
writes-stop Failed a b x y h = h
writes-stop NoMemory a b x y h = inr h

pub writes-done : (a b : Option (List ℕ)) (x : Output) → Goes (Ok tt) a x b (status_alone 0) → WroteAll status.Done x a b
unfolding Goes
writes-done a b x h = wrote-all status.Done a b x h
