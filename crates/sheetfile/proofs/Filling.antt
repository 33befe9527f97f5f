-- What a load accepts, and a file that is written again.
use Rattle.std.proofs.Common.{◌≡◌, ℕ, ◌+◌, ◌<◌, ◌≤◌, ltb, cond, ◌⊎◌, ⊎_elim, List, length, get_or, take, drop, Some, None, Ok, Err, Option, Result, IfOk, Bor, MatchOption, is_ok, sym, refl, ap, ◌∙◌, arith, w8, Fits}
use Rattle.std.specs.Result.{result_map_both}
use Rattle.std.specs.Option.{unwrap_or}
use Rattle.std.specs.List.{slice_range}
use native.Mathlib.Nat.{sub-zero}
use Rattle.refusals.specs.declared.Refusal.{Refusal}
use Rattle.std.proofs.lemmas.List.{take_all, take_at}
use Rattle.std.proofs.lemmas.Bool.{cases_lt, cond-true, cond-false, le-ltb, lt-ltb}
use Rattle.refusals.specs.Faults.{fault_of}
use Rattle.refusals.specs.declared.Fault.{Fault}
use Rattle.refusals.specs.declared.Refusal.TheVariants.{CountsOutside, TooShort}
use Rattle.sources.proofs.Tables.{fills, length_ends, means}
use Rattle.sources.specs.Meaning.{Meaning}
use Rattle.sources.specs.Sheets.{fill_verdict, sheet_of, within_limits}
use Rattle.sources.specs.Tables.{entries_of, heading_of, starts_of}
use Rattle.sources.specs.declared.records.Entry.{Entry}
use Rattle.sources.specs.declared.records.Heading.{Heading}
use Rattle.sheetfile.specs.Laws.{LoadsExactly}
use Rattle.sheetfile.specs.Layout.{LongEnough, SheetFile, entries_in}
use Rattle.sheetfile.specs.Reading.{loaded, loaded_within}
use Rattle.sheetfile.specs.Steps.{and_then, room_for, updated}
use Rattle.numbers.specs.Writing.{over}
use Rattle.sheetfile.specs.Tables.{entries_after, heading_answer, sheet_in, starts_after}
use Rattle.sheetfile.specs.Writing.{rewrite_answer, write_answer, written}
use Rattle.sheetfile.proofs.Again.{same_bytes}
use Rattle.sheetfile.proofs.Bounds.{limits}
use Rattle.sheetfile.proofs.Exact.{file_back, file_read}
use Rattle.sheetfile.proofs.Steps.{err_not_ok, ok_same, room_there}
use Rattle.sheetfile.proofs.Tables.{heading_err, heading_ok, updated_err}

-- the first starts, or all of them if there are fewer
pub front_is : (o : Option (Bor (List ℕ))) (s : Bor (List ℕ)) (n : ℕ) →
    MatchOption o ((n < 0) ⊎ (length s.now < n)) (λ x. (0 ≤ n) × (n ≤ length s.now) × (x.now ≡ slice_range s.now 0 n) × (length x.now + 0 ≡ n)) → (unwrap_or o s).now ≡ take n s.now
front_is None s n few = sym (take_all n s.now (⊎_elim (λ l. omega (arith, l)) (λ l. omega (arith, l)) few))
front_is (Some x) s n h = h.2 ∙ ap (λ k. take k s.now) (sub-zero n)

-- what filling a sheet from them says
module _ (h : Heading) (starts front : List ℕ) (entries : List Entry) (cut : front ≡ take (h.carriers + 1) starts) where
  in_front : result_map_both (λ _. sheet_of h front entries) fault_of (fill_verdict h front entries) ≡ sheet_in h starts entries
  in_front = ap (λ z. result_map_both (λ _. sheet_of h z entries) fault_of (fill_verdict h z entries)) cut

  pub sheet_told : (r : Result (Unit {0}) Refusal) → r ≡ fill_verdict h front entries → r ≡ Ok tt → (old new : Meaning) → new ≡ cond (is_ok r) (sheet_of h front entries) old → Ok new ≡ sheet_in h starts entries
  sheet_told r is ok old new means =
      ap Ok (means ∙ ap (λ z. cond (is_ok z) (sheet_of h front entries) old) ok)
      ∙ sym (ap (result_map_both (λ _. sheet_of h front entries) fault_of) (sym is ∙ ok)) ∙ in_front

  pub sheet_refused : (r : Result (Unit {0}) Refusal) → r ≡ fill_verdict h front entries → (e : Refusal) → r ≡ Err e → Err (fault_of e) ≡ sheet_in h starts entries
  sheet_refused r is e err = sym (ap (result_map_both (λ _. sheet_of h front entries) fault_of) (sym is ∙ err)) ∙ in_front

-- a file of at most 32,768 bytes is loaded, into tables of the limits
pub within_loaded : (bs : List ℕ) (starts room : ℕ) → length bs ≤ 32768 → starts ≡ 129 → room ≡ 4096 → loaded_within bs ≡ loaded bs starts room
within_loaded bs starts room l s e =
    cond-false (ltb 32768 (length bs)) _ _ (le-ltb 32768 (length bs) l) ∙ sym (ap (λ n. loaded bs n 4096) s) ∙ sym (ap (λ n. loaded bs starts n) e)

-- what is loaded is a sheet file within the limits
pub within_file : (bs : List ℕ) → ((i : ℕ) → Fits w8 (get_or bs i 0)) → (m : Meaning) → loaded_within bs ≡ Ok m → SheetFile bs m
within_file bs typed m is =
    ⊎_elim (λ long. err_not_ok (fault_of TooShort) m (sym (cond-true (ltb 32768 (length bs)) (Err (fault_of TooShort)) (loaded bs 129 4096) (lt-ltb 32768 (length bs) long)) ∙ is))
    (λ short. (file_read bs typed 129 4096 m (sym (within_loaded bs 129 4096 short refl refl) ∙ is)).0)
    (cases_lt 32768 (length bs))

-- a sheet file within the limits is loaded
module _ (bs : List ℕ) (m : Meaning) (is : SheetFile bs m) (short : length bs ≤ 32768) (few : entries_in m.rows ≤ 4096) where
  pub loaded_there : loaded_within bs ≡ Ok m
  loaded_there =
      let high = (limits (heading_of m) is.bounded.limited).carriers_high in
      within_loaded bs 129 4096 short refl refl ∙ file_back bs 129 4096 m is (record { starts_fit = omega (arith, high); entries_fit = few })

  pub heading_told : (r : Result Heading Fault) → r ≡ heading_answer (loaded_within bs) → r ≡ Ok (heading_of m)
  heading_told r told = told ∙ ap heading_answer loaded_there

  pub sheet_there : (r : Result Heading Fault) (starts' : List ℕ) (entries' : List Entry) → r ≡ Ok (heading_of m) → and_then r (λ h. sheet_in h starts' entries') ≡ loaded_within bs → sheet_in (heading_of m) starts' entries' ≡ Ok m
  sheet_there r starts' entries' ok filled = sym (ap (λ q. and_then q (λ h. sheet_in h starts' entries')) ok) ∙ filled ∙ loaded_there

-- what is known of a file that was loaded
module _ (bs starts : List ℕ) (entries : List Entry) (typed : (i : ℕ) → Fits w8 (get_or bs i 0)) (starts' : List ℕ) (entries' : List Entry)
    (ss : starts' ≡ starts_after bs starts (length entries)) (es : entries' ≡ entries_after bs (length starts) entries) where
  module _ (m : Meaning) (is : loaded bs (length starts) (length entries) ≡ Ok m) where
    pub starts_are : starts' ≡ over starts 0 (starts_of m.rows)
    starts_are = ss ∙ ap (λ q. updated q starts (λ m. over starts 0 (starts_of m.rows))) is

    pub entries_are : entries' ≡ over entries 0 (entries_of m.rows)
    entries_are = es ∙ ap (λ q. updated q entries (λ m. over entries 0 (entries_of m.rows))) is

    file : SheetFile bs m
    file = (file_read bs typed (length starts) (length entries) m is).0

    rest : List Entry
    rest = drop (0 + length (entries_of m.rows)) entries

    starts_front : take (m.carriers + 1) starts' ≡ starts_of m.rows
    starts_front =
        ap (take (m.carriers + 1)) starts_are
        ∙ take_at (starts_of m.rows) (drop (0 + length (starts_of m.rows)) starts) (m.carriers + 1) (omega (arith, length_ends 0 m.rows, file.bounded.sound.counted))

    pub fills_sheet : (fill_verdict (heading_of m) (take (m.carriers + 1) starts') entries' ≡ Ok tt) × (sheet_of (heading_of m) (take (m.carriers + 1) starts') entries' ≡ m)
    unfolding rest
    fills_sheet = (
      ap (λ x. fill_verdict (heading_of m) x entries') starts_front ∙ ap (fill_verdict (heading_of m) (starts_of m.rows)) entries_are ∙ fills m file.bounded rest,
      ap (λ x. sheet_of (heading_of m) x entries') starts_front ∙ ap (sheet_of (heading_of m) (starts_of m.rows)) entries_are ∙ means m rest file.bounded.sound.counted,
    )

  -- a file that was loaded, by the heading that was answered
  module _ (h : Heading) (told : Ok h ≡ heading_answer (loaded bs (length starts) (length entries))) where
    pub whole : (m : Meaning) × (loaded bs (length starts) (length entries) ≡ Ok m) × (h ≡ heading_of m)
    whole = heading_ok (loaded bs (length starts) (length entries)) h told

    -- the sheet over the tables means the file
    pub fills_whole : sheet_in h starts' entries' ≡ Ok whole.0
    fills_whole =
        let s = fills_sheet whole.0 whole.1 in
        ap (λ (x : Heading). sheet_in x starts' entries') whole.2
        ∙ ap (result_map_both (λ _. sheet_of (heading_of whole.0) (take (whole.0.carriers + 1) starts') entries') fault_of) s.0 ∙ ap Ok s.1

    -- what the sheet over the tables is written as
    module _ (m : Meaning) (means : Ok m ≡ sheet_in h starts' entries') where
      is_whole : m ≡ whole.0
      is_whole = ok_same m whole.0 (means ∙ fills_whole)

      pub same_out : written m ≡ bs
      same_out = ap written is_whole ∙ same_bytes whole.0 bs (file whole.0 whole.1)

      module _ (room : ℕ) (fits : length bs ≤ room) where
        pub written_again : write_answer m room ≡ Ok (length bs)
        written_again =
            ap (λ x. write_answer x room) is_whole
            ∙ cond-true (within_limits (heading_of whole.0)) (room_for TooShort (length (written whole.0)) room (length (written whole.0))) (Err CountsOutside) (file whole.0 whole.1).bounded.limited
            ∙ ap (λ b. room_for TooShort (length b) room (length b)) (same_bytes whole.0 bs (file whole.0 whole.1))
            ∙ room_there TooShort (length bs) room (length bs) fits

        pub rewrite_ok : (n : ℕ) → Ok n ≡ write_answer m room → Ok n ≡ rewrite_answer bs (length starts) (length entries) room
        rewrite_ok n is =
            ap (λ k. Ok k) (ok_same n (length bs) (is ∙ written_again))
            ∙ sym (room_there (fault_of TooShort) (length bs) room (length bs) fits)
            ∙ sym (ap (λ q. and_then q (λ _. room_for (fault_of TooShort) (length bs) room (length bs))) whole.1)

  pub loads_then_fills : (r : Result Heading Fault) → r ≡ heading_answer (loaded bs (length starts) (length entries)) → and_then r (λ h. sheet_in h starts' entries') ≡ loaded bs (length starts) (length entries)
  loads_then_fills (Err e) told = sym (heading_err (loaded bs (length starts) (length entries)) e told)
  loads_then_fills (Ok h) told = fills_whole h told ∙ sym (whole h told).1

  module _ (r : Result Heading Fault) (told : r ≡ heading_answer (loaded bs (length starts) (length entries))) where
    only : (h : Heading) → r ≡ Ok h → (m : Meaning) × SheetFile bs m × LongEnough m (length starts) (length entries) × (h ≡ heading_of m) × (sheet_in h starts' entries' ≡ Ok m)
    only h ok =
        let k = whole h (sym ok ∙ told) in
        let f = file_read bs typed (length starts) (length entries) k.0 k.1 in
        (k.0, f.0, f.1, k.2, fills_whole h (sym ok ∙ told))

    pub loads_exactly : LoadsExactly bs starts entries r starts' entries'
    loads_exactly = record {
      every = λ m file enough. let v = file_back bs (length starts) (length entries) m file enough in (told ∙ ap heading_answer v, starts_are m v, entries_are m v);
      only = only;
      refused = λ e err.
          let v = heading_err (loaded bs (length starts) (length entries)) e (sym err ∙ told) in
          (ss ∙ sym (updated_err (loaded bs (length starts) (length entries)) e starts (λ m. over starts 0 (starts_of m.rows)) v), es ∙ sym (updated_err (loaded bs (length starts) (length entries)) e entries (λ m. over entries 0 (entries_of m.rows)) v));
    }

-- what a load accepts is a sheet file
pub loads_file : (bs starts : List ℕ) (entries : List Entry) (r : Result Heading Fault) (starts' : List ℕ) (entries' : List Entry) → LoadsExactly bs starts entries r starts' entries' →
    IfOk r (λ h. (m : Meaning) × SheetFile bs m × (sheet_in h starts' entries' ≡ Ok m))
loads_file bs starts entries (Err e) starts' entries' law = tt
loads_file bs starts entries (Ok h) starts' entries' law = let k = law.only h refl in (k.0, k.1, k.4)
