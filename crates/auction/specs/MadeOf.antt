-- What a run is made of, said by calls: no line and no flight.
use Rattle.std.specs.Prelude.{◌≡◌, ℕ, ◌<◌, ◌≤◌, max, Bool, true, false, List, [], ◌∷◌, ◌++◌, map, length, replicate, is_ok, Some, Ok, Contains, flat_map, ◌≢◌, ◌↔◌}
use Rattle.std.specs.List.{AllByRecursion}
use Rattle.sources.specs.Meaning.{Meaning, row_of}
use Rattle.auction.specs.declared.bidding.Act.{Act}
use Rattle.auction.specs.declared.bidding.Act.TheVariants.{Summon as Summons, Look as Looks, Settle as Settles}
use Rattle.auction.specs.declared.bidding.Report.{Report}
use Rattle.auction.specs.declared.bidding.Standing.{Standing}
use Rattle.auction.specs.declared.bidding.Verdict.{Verdict}
use Rattle.auction.specs.declared.calls.Call.{Call}
use Rattle.auction.specs.declared.calls.Call.TheVariants.{Summon, Look, Settle}
use Rattle.auction.specs.Standings.{is_waiting, is_bidding, looks_for}
use Rattle.auction.specs.Tally.{Tally, standing_at}
use Rattle.auction.specs.Rules.{settle_answer}
use Rattle.auction.specs.Runs.{run_answer, run_tally}
use Rattle.auction.specs.Calls.{tally_from, tally_after, answers_from}
use Rattle.auction.specs.Laws.{waiting, bidding}
use Rattle.auction.specs.Sequential.{Sequential}

-- The call on carrier i.
abbrev pub act_call : Act → ℕ → Call
act_call Summons i = Summon i
act_call Looks i = Look i
act_call Settles i = Settle i

abbrev pub calls_of : List (Act × ℕ) → List Call
calls_of acts = map (λ a. act_call a.0 a.1) acts

-- Made one after the other, the acts lead from one tally to the other.
abbrev pub LeadsTo : Meaning → Tally → List (Act × ℕ) → Tally → Type 0
LeadsTo m before acts after = tally_from m (Some before) (calls_of acts) ≡ Some after

-- Where the first of the acts have led to the tally t, and the rest are left.
abbrev pub Midway : Meaning → Tally → List (Act × ℕ) → List (Act × ℕ) → List (Act × ℕ) → Tally → Type 0
Midway m before acts first rest t = (acts ≡ first ++ rest) × LeadsTo m before first t

-- Who waits is ready to be summoned, and who bids to look or to settle.
abbrev pub is_ready : Act → Standing → Bool
is_ready Summons s = is_waiting s
is_ready Looks s = is_bidding s
is_ready Settles s = is_bidding s

-- One of the acts is carrier i's.
abbrev pub Acted : List (Act × ℕ) → ℕ → Type 0
Acted acts i = Contains (map (λ a. a.1) acts) i

-- A carrier's round: it is summoned, looks at its whole row, and settles.
abbrev pub round : Meaning → ℕ → ℕ → List (Act × ℕ)
round m lanes i = (Summons, i) ∷ replicate (looks_for lanes (length (row_of m i))) (Looks, i) ++ (Settles, i) ∷ []

-- One carrier after the other: the acts are rounds, the last of which may be cut off, and each carrier settles as in the sequential auction, at the prices then.
pub record InRounds (m : Meaning) (before : Tally) (acts : List (Act × ℕ)) : Type 0 where
  -- Whose rounds they are.
  pub carriers : List ℕ
  pub cut_off : List (Act × ℕ)
  pub rounds : acts ++ cut_off ≡ flat_map (round m before.lanes) carriers
  pub settles : (first rest : List (Act × ℕ)) (i : ℕ) (t : Tally) (v : Verdict) → Midway m before acts first ((Settles, i) ∷ rest) t →
      settle_answer i m (Some t) ≡ Ok v → Sequential t (row_of m i) v

-- A run is as many summonses, looks and settles, each accepted, as it tells steps, and they lead to the tally after it.
pub record MadeOf (m : Meaning) (depth : ℕ) (before after : Tally) (p : Report) : Type 0 where
  -- Each with its carrier.
  pub acts : List (Act × ℕ)
  pub counted : length acts ≡ p.steps
  pub accepted : AllByRecursion (λ r. is_ok r ≡ true) (answers_from m (Some before) (calls_of acts))
  pub led : LeadsTo m before acts after
  -- At no point are more bids open than the depth, or than before the run.
  pub narrow : (first rest : List (Act × ℕ)) (t : Tally) → Midway m before acts first rest t → bidding t ≤ max depth (bidding before)
  -- The next act is a summons exactly if somebody waits and fewer bids than the depth are open.
  pub fills : (first rest : List (Act × ℕ)) (x : Act × ℕ) (t : Tally) → Midway m before acts first (x ∷ rest) t →
      (x.0 ≡ Summons) ↔ ((0 < waiting t) × (bidding t < depth))
  -- First in, first out: who is ready for an act acts before who is not ready for it yet. So nobody overtakes a waiting carrier twice.
  pub in_turn : (first between rest : List (Act × ℕ)) (a : Act) (i k : ℕ) (t : Tally) →
      Midway m before acts first (between ++ (a, k) ∷ rest) t →
      is_ready a (standing_at t i) ≡ true → is_ready a (standing_at t k) ≡ false → Acted between i
  -- Round robin: who has looked does not look again or settle before everybody else who bids has acted.
  pub round_robin : (first between rest : List (Act × ℕ)) (a : Act) (i k : ℕ) (t : Tally) →
      Midway m before acts first ((Looks, k) ∷ between ++ (a, k) ∷ rest) t →
      a ≢ Summons → i ≢ k → is_bidding (standing_at t i) ≡ true → Acted between i
  -- Those who are ready at the beginning act in the order of their numbers.
  pub ascending : (first rest : List (Act × ℕ)) (a : Act) (i k : ℕ) → acts ≡ first ++ (a, k) ∷ rest → i < k →
      is_ready a (standing_at before i) ≡ true → is_ready a (standing_at before k) ≡ true → Acted first i
  -- At depth 1 and begun with no open bid, it is the sequential auction, and no bid is stale.
  pub sequential : depth ≡ 1 → bidding before ≡ 0 → InRounds m before acts × (p.counts.stales ≡ 0)

-- So is every accepted run, whatever calls came before it.
abbrev pub RunsMade : Meaning → Type 0
RunsMade m =
    (calls : List Call) (depth budget : ℕ) (t u : Tally) (p : Report) → tally_after m calls ≡ Some t → run_answer depth budget m (Some t) ≡ Ok p →
    run_tally depth budget m (Some t) ≡ Some u → MadeOf m depth t u p
