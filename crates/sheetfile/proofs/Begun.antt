-- A sheet file that is read in part: what was read of it, and what is left.
use Rattle.std.proofs.Common.{◌≡◌, ℕ, ◌+◌, ◌<◌, ◌≤◌, true, List, [], ◌∷◌, ◌++◌, length, get_or, take, drop, is_ok, Ok, Err, Result, sym, refl, ap, ◌∙◌, subst, arith, w8, Fits}
use Rattle.std.proofs.ByRecursion.{All-append, All-get_or}
use Rattle.std.proofs.Math.Logic.{∥∥₁_elim, ∥∥₁_map}
use Rattle.std.proofs.Props.{props}
use Rattle.std.proofs.lemmas.List.{append_assoc, append-nil, flat_map_more, get_or_at, length-append, length_push, nil_from_length, take_at}
use Rattle.std.specs.List.{flat_map, AllByRecursion}
use Rattle.numbers.specs.Groups.{encoded}
use Rattle.refusals.specs.Faults.{fault_of}
use Rattle.refusals.specs.declared.Fault.{Fault}
use Rattle.refusals.specs.declared.Refusal.TheVariants.{TooShort}
use Rattle.sources.specs.Meaning.{Meaning, Sound, row_of}
use Rattle.sources.specs.Tables.{heading_of}
use Rattle.sources.specs.declared.records.Heading.{Heading}
use Rattle.sheetfile.specs.Begun.{Begun}
use Rattle.sheetfile.specs.Layout.{Row, SheetFile, entries_in, heading_bytes, meaning_of, row_bytes}
use Rattle.sheetfile.specs.Reading.{closed_at, heading_from, heading_in, loaded, row_from}
use Rattle.sheetfile.specs.Steps.{room_for}
use Rattle.sheetfile.specs.Tables.{heading_answer}
use Rattle.sheetfile.proofs.Bounds.{HeadingIn, RowIn, bounded, from_limits, limits, rows_in, some_in, sound_in}
use Rattle.sheetfile.proofs.Exact.{closed_back, closed_read, file_back, file_read, heading_back, heading_read, row_back, row_read, rows_short}
use Rattle.sheetfile.proofs.Sheets.{entries_push}
use Rattle.sheetfile.proofs.Steps.{followed, follows, ok_same, room_there, roomy}
use Rattle.sheetfile.proofs.Tables.{heading_ok}

-- a result that is Ok
ok_there : {A : Type 0} (r : Result A Fault) → is_ok r ≡ true → (x : A) × (r ≡ Ok x)
ok_there (Ok x) is = (x, refl)
ok_there (Err e) is = absurd (let z : ◌≡◌ {A = ℕ} 0 1 = cc in omega arith)

-- two lists of rows whose bytes stand at one place: the longer one begins with the other
begin_alike : (bs : List ℕ) (h : Heading) → HeadingIn h → (at : ℕ) (rows rows' : List Row) (rest rest' : List ℕ) → AllByRecursion (RowIn h 0) rows → AllByRecursion (RowIn h 0) rows' → length rows ≤ length rows'
    → drop at bs ≡ flat_map row_bytes rows ++ rest → drop at bs ≡ flat_map row_bytes rows' ++ rest' → (left : List Row) × (rows' ≡ rows ++ left) × (rest ≡ flat_map row_bytes left ++ rest')
begin_alike bs h g at [] rows' rest rest' r r' l e e' = (rows', refl, sym e ∙ e')
begin_alike bs h g at (row ∷ rows) [] rest rest' r r' l e e' = absurd (omega arith)
begin_alike bs h g at (row ∷ rows) (row' ∷ rows') rest rest' r r' l e e' =
    let p = row_back bs h g at row (flat_map row_bytes rows ++ rest) r.0 (e ∙ append_assoc (row_bytes row) (flat_map row_bytes rows) rest) in
    let q = row_back bs h g at row' (flat_map row_bytes rows' ++ rest') r'.0 (e' ∙ append_assoc (row_bytes row') (flat_map row_bytes rows') rest') in
    let same : ◌≡◌ {A = Row × ℕ} (row, p.0) (row', q.0) = ok_same (row, p.0) (row', q.0) (sym p.1 ∙ q.1) in
    let i = begin_alike bs h g p.0 rows rows' rest rest' r.1 r'.1 (omega (arith, l)) p.2 (ap (λ (x : Row × ℕ). drop x.1 bs) same ∙ q.2) in
    (i.0, ap (λ (x : Row × ℕ). x.0 ∷ rows') (sym same) ∙ ap (λ z. row ∷ z) i.1, i.2)

-- of the rows behind some there is a first one
first_left : (rows left all : List Row) → all ≡ rows ++ left → length rows < length all → (rest : List Row) × (left ≡ get_or all (length rows) [] ∷ rest)
first_left rows [] all is few = absurd (omega (arith, ap length is, ap length (append-nil rows)))
first_left rows (row ∷ rest) all is few = (rest, ap (λ r. r ∷ rest) (sym (ap (λ l. get_or l (length rows) []) is ∙ get_or_at rows row rest [] (length rows) refl)))

module _ (bs : List ℕ) (h : Heading) (at n used : ℕ) where
  module _ (b : Begun bs at h n used) where
    good : AllByRecursion (RowIn h 0) b.rows
    good = rows_in h b.rows b.sound.rising b.sound.known b.nonzero b.sound.within

    -- by a sheet file of the same bytes
    module _ (m : Meaning) (file : SheetFile bs m) where
      fronts : (at' : ℕ) × (drop at' bs ≡ flat_map row_bytes b.rows ++ drop at bs) × (drop at' bs ≡ flat_map row_bytes m.rows ++ encoded (entries_in m.rows)) × (h ≡ heading_of m)
      fronts =
          let p = heading_back bs 0 h (flat_map row_bytes b.rows ++ drop at bs) (limits h b.limited) b.bytes_are in
          let q = heading_back bs 0 (heading_of m) (flat_map row_bytes m.rows ++ encoded (entries_in m.rows)) (bounded m file.bounded).headed file.bytes_are in
          let same : ◌≡◌ {A = Heading × ℕ} (h, p.0) (heading_of m, q.0) = ok_same (h, p.0) (heading_of m, q.0) (sym p.1 ∙ q.1) in
          (p.0, p.2, ap (λ (x : Heading × ℕ). drop x.1 bs) same ∙ q.2, ap (λ (x : Heading × ℕ). x.0) same)

      left : (left : List Row) × (m.rows ≡ b.rows ++ left) × (drop at bs ≡ flat_map row_bytes left ++ encoded (entries_in m.rows))
      left =
          let f = fronts in
          let all = bounded m file.bounded in
          begin_alike bs h (limits h b.limited) f.0 b.rows m.rows (drop at bs) (encoded (entries_in m.rows)) good (subst (λ x. AllByRecursion (RowIn x 0) m.rows) (sym f.3) all.good)
          (omega (arith, b.few, b.sound.counted, all.counted, ap (λ (x : Heading). x.carriers) f.3)) f.1 f.2

      used_there : used ≡ entries_in (take n m.rows)
      used_there = sym (ap entries_in (ap (take n) left.1 ∙ take_at b.rows left.0 n b.sound.counted) ∙ b.entries)

      next_there : n < m.carriers → (next : ℕ) × (row_from bs h at ≡ Ok (row_of m n, next))
      next_there inside =
          let k = left in
          let all = bounded m file.bounded in
          let c = b.sound.counted in
          let f = first_left b.rows k.0 m.rows k.1 (omega (arith, c, all.counted, inside)) in
          let is : k.0 ≡ row_of m n ∷ f.0 = f.1 ∙ ap (λ i. row_of m i ∷ f.0) c in
          let p = row_back bs h (limits h b.limited) at (row_of m n) (flat_map row_bytes f.0 ++ encoded (entries_in m.rows)) (All-get_or (RowIn h 0) m.rows n [] (omega (arith, all.counted, inside)) (subst (λ x. AllByRecursion (RowIn x 0) m.rows) (sym fronts.3) all.good))
          (k.2 ∙ ap (λ l. flat_map row_bytes l ++ encoded (entries_in m.rows)) is ∙ append_assoc (row_bytes (row_of m n)) (flat_map row_bytes f.0) (encoded (entries_in m.rows))) in
          (p.0, p.1)

      end_there : n ≡ m.carriers → closed_at bs used at ≡ Ok tt
      end_there last =
          let k = left in
          let all = bounded m file.bounded in
          let none : k.0 ≡ [] = nil_from_length k.0 (omega (arith, ap length k.1, length-append b.rows k.0, b.sound.counted, all.counted, last)) in
          let count : entries_in m.rows ≡ used = ap entries_in (k.1 ∙ ap (λ l. b.rows ++ l) none ∙ append-nil b.rows) ∙ b.entries in
          let few = rows_short (heading_of m) m.rows all.good all.headed.jobs_high in
          closed_back bs used at (omega (arith, few, count, all.counted, all.headed.carriers_high))
          (k.2 ∙ ap (λ l. flat_map row_bytes l ++ encoded (entries_in m.rows)) none ∙ ap encoded count)

  module _ (b : Begun bs at h n used) where
    typed : (i : ℕ) → Fits w8 (get_or bs i 0)
    typed i = record { fits = b.small i }

    -- one more row
    begun_on : n < h.carriers → (row : Row) (next : ℕ) → row_from bs h at ≡ Ok (row, next) → Begun bs next h (n + 1) (used + length row)
    begun_on inside row next is =
        let r = row_read bs typed h at (row, next) is in
        let all = All-append (RowIn h 0) b.rows (row ∷ []) (good b) (r.1, tt) in
        record {
          rows = b.rows ++ row ∷ [];
          small = b.small;
          limited = b.limited;
          sound = sound_in h (limits h b.limited) (b.rows ++ row ∷ []) all (n + 1) (omega (arith, length_push b.rows row, b.sound.counted));
          nonzero = some_in h (limits h b.limited) (b.rows ++ row ∷ []) all;
          few = omega (arith, inside);
          entries = entries_push b.rows row ∙ ap (λ k. k + length row) b.entries;
          bytes_are = b.bytes_are ∙ ap (λ l. heading_bytes h ++ (flat_map row_bytes b.rows ++ l)) r.0 ∙ ap (λ l. heading_bytes h ++ l) (sym (append_assoc (flat_map row_bytes b.rows) (row_bytes row) (drop next bs)))
              ∙ ap (λ l. heading_bytes h ++ (l ++ drop next bs)) (flat_map_more row_bytes [] b.rows row);
        }

    -- all rows, and the end
    all_read : h.carriers ≤ n → closed_at bs used at ≡ Ok tt → heading_answer (loaded bs (h.carriers + 1) used) ≡ Ok h
    all_read last is =
        let c : n ≡ h.carriers = omega (arith, b.few, last) in
        let s = b.sound in
        let file : SheetFile bs (meaning_of h b.rows) = record {
          bounded = record { sound = subst (λ k. Sound (record { carriers = k; jobs = h.jobs; ceiling = h.ceiling; rows = b.rows })) c b.sound; limited = b.limited; nonzero = b.nonzero };
          bytes_are = b.bytes_are ∙ ap (λ l. heading_bytes h ++ (flat_map row_bytes b.rows ++ l)) (closed_read bs typed used at tt is ∙ ap encoded (sym b.entries));
        } in
        ap heading_answer (file_back bs (h.carriers + 1) used (meaning_of h b.rows) file (record { starts_fit = omega arith; entries_fit = omega (arith, b.entries) }))

  -- the same out of a loader's ghost field
  module _ (b : ∥ Begun bs at h n used ∥₁) where
    pub told_heading : (m : Meaning) → SheetFile bs m → h ≡ heading_of m
    told_heading m file = ∥∥₁_elim b (hlevel props) (λ b. (fronts b m file).3)

    pub told_used : (m : Meaning) → SheetFile bs m → used ≡ entries_in (take n m.rows)
    told_used m file = ∥∥₁_elim b (hlevel props) (λ b. used_there b m file)

    pub told_next : (m : Meaning) → SheetFile bs m → n < m.carriers → (next : ℕ) × (row_from bs h at ≡ Ok (row_of m n, next))
    told_next m file inside =
        let t : (is_ok (row_from bs h at) ≡ true) × ((x : Row × ℕ) → row_from bs h at ≡ Ok x → x.0 ≡ row_of m n) =
        ∥∥₁_elim b (hlevel props) (λ b. let k = next_there b m file inside in (ap is_ok k.1, λ x is. ap (λ (y : Row × ℕ). y.0) (ok_same x (row_of m n, k.0) (sym is ∙ k.1)))) in
        let x = ok_there (row_from bs h at) t.0 in
        (x.0.1, x.1 ∙ ap (λ row. Ok (row, x.0.1)) (t.1 x.0 x.1))

    pub told_end : (m : Meaning) → SheetFile bs m → n ≡ m.carriers → closed_at bs used at ≡ Ok tt
    told_end m file last = (ok_there (closed_at bs used at) (∥∥₁_elim b (hlevel props) (λ b. ap is_ok (end_there b m file last)))).1

    pub begun_more : n < h.carriers → (row : Row) (next : ℕ) → row_from bs h at ≡ Ok (row, next) → ∥ Begun bs next h (n + 1) (used + length row) ∥₁
    begun_more inside row next is = ∥∥₁_map b (λ b. begun_on b inside row next is)

    pub told_file : h.carriers ≤ n → closed_at bs used at ≡ Ok tt → (m : Meaning) × SheetFile bs m × (n ≡ m.carriers) × (h ≡ heading_of m)
    told_file last is =
        let t : (is_ok (loaded bs (h.carriers + 1) used) ≡ true) × ((i : ℕ) → get_or bs i 0 < 256) × (n ≤ h.carriers) × ((x : Meaning) → loaded bs (h.carriers + 1) used ≡ Ok x → h ≡ heading_of x) =
        ∥∥₁_elim b (hlevel props)
        (λ b. let k = heading_ok (loaded bs (h.carriers + 1) used) h (sym (all_read b last is)) in (ap is_ok k.1, b.small, b.few, λ x is. k.2 ∙ ap heading_of (ok_same k.0 x (sym k.1 ∙ is)))) in
        let x = ok_there (loaded bs (h.carriers + 1) used) t.0 in
        let e = t.3 x.0 x.1 in
        (x.0, (file_read bs (λ i. record { fits = t.1 i }) (h.carriers + 1) used x.0 x.1).0, omega (arith, last, t.2, ap (λ (y : Heading). y.carriers) e), e)

-- the heading of a sheet file
pub heading_there : (bs : List ℕ) (m : Meaning) (starts : ℕ) → SheetFile bs m → m.carriers + 1 ≤ starts → (at : ℕ) × (heading_in bs starts ≡ Ok (heading_of m, at))
heading_there bs m starts file enough =
    let p = heading_back bs 0 (heading_of m) (flat_map row_bytes m.rows ++ encoded (entries_in m.rows)) (bounded m file.bounded).headed file.bytes_are in
    (p.0, follows (heading_from bs 0) (λ h. room_for (fault_of TooShort) (h.0.carriers + 1) starts h) (heading_of m, p.0) (Ok (heading_of m, p.0)) p.1 (room_there (fault_of TooShort) (m.carriers + 1) starts (heading_of m, p.0) enough))

-- no row is read yet
pub begun_first : (bs : List ℕ) → ((i : ℕ) → get_or bs i 0 < 256) → (starts : ℕ) (h : Heading) (at : ℕ) → heading_in bs starts ≡ Ok (h, at) → ∥ Begun bs at h 0 0 ∥₁
begun_first bs small starts h at is =
    let f = followed (heading_from bs 0) (λ h. room_for (fault_of TooShort) (h.0.carriers + 1) starts h) (h, at) is in
    let r = heading_read bs (λ i. record { fits = small i }) 0 (h, at) (f.1 ∙ ap (λ (x : Heading × ℕ). Ok x) (roomy (fault_of TooShort) (f.0.0.carriers + 1) starts f.0 (h, at) f.2).1) in
    ∣ record { rows = []; small = small; limited = from_limits h r.1; sound = sound_in h r.1 [] tt 0 refl; nonzero = tt; few = omega arith; entries = refl; bytes_are = r.0 } ∣₁
