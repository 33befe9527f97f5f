-- What good row starts tell of each of them.
use Rattle.std.specs.Prelude.{◌≡◌, ℕ, zero, suc, ◌+◌, ◌-◌, ◌<◌, ◌≤◌, true, List, length, Decides, nat_le, slice_index, slice_index_or, refl}
use Rattle.std.proofs.Common.{arith, add-zero}
use Rattle.std.proofs.lemmas.Bool.{leb-true, le-leb, eqb-true, and_parts}
use Rattle.std.proofs.lemmas.Bool.Decides.{Decides-below_and}
use Rattle.sources.specs.declared.records.Heading.{Heading}
use Rattle.sources.specs.Sheets.{never_falls, last_of, starts_good}

pub record Started (h : Heading) (starts : List ℕ) (count : ℕ) : Type 0 where
  pub counted : length starts ≡ h.carriers + 1
  pub begins : slice_index_or starts 0 0 ≡ 0
  pub rises : (k : ℕ) → k < h.carriers → slice_index starts k ≤ slice_index starts (k + 1)
  pub ends : last_of h starts ≤ count

pub never_falls_lem : (starts : List ℕ) (n : ℕ) → Decides (never_falls starts n) ((k : ℕ) → k < n → slice_index starts k ≤ slice_index starts (k + 1))
never_falls_lem starts n =
    Decides-below_and (λ k. nat_le (slice_index starts k) (slice_index starts (k + 1))) (λ k. slice_index starts k ≤ slice_index starts (k + 1)) (never_falls starts)
    (λ k. (leb-true (slice_index starts k) (slice_index starts (k + 1)), le-leb (slice_index starts k) (slice_index starts (k + 1)))) refl (λ _. refl) n

pub started : (h : Heading) (starts : List ℕ) (count : ℕ) → starts_good h starts count ≡ true → Started h starts count
started h starts count e =
    let p = and_parts _ _ e in
    let q = and_parts _ _ p.0 in
    let r = and_parts _ _ p.1 in
    record {
      counted = eqb-true (length starts) (h.carriers + 1) q.0;
      begins = eqb-true (slice_index starts 0) 0 q.1;
      rises = (never_falls_lem starts h.carriers).0 r.0;
      ends = leb-true (last_of h starts) count r.1;
    }

module _ (h : Heading) (starts : List ℕ) (count : ℕ) (s : Started h starts count) where
  climbs : (j d : ℕ) → j + d ≤ h.carriers → slice_index starts j ≤ slice_index starts (j + d)
  climbs j zero l = rw add-zero (omega arith)
  climbs j (suc d) l =
      let i : slice_index_or starts j 0 ≤ slice_index_or starts (j + d) 0 = climbs j d (omega arith) in
      let t : slice_index_or starts (j + d) 0 ≤ slice_index_or starts ((j + d) + 1) 0 = s.rises (j + d) (omega arith) in
      let e : (j + d) + 1 ≡ j + suc d = omega arith in
      rw (← e) (omega arith)

  pub mono : (j k : ℕ) → j ≤ k → k ≤ h.carriers → slice_index starts j ≤ slice_index starts k
  mono j k l m =
      let e : j + (k - j) ≡ k = omega arith in
      rw e at (climbs j (k - j) (omega arith))

  pub below : (k : ℕ) → k ≤ h.carriers → slice_index starts k ≤ count
  below k l = omega (arith, mono k h.carriers l (omega arith), s.ends)
