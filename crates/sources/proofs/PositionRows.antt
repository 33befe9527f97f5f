-- What a source of places reads, carrier by carrier and job by job.
use Rattle.std.proofs.Common.{◌≡◌, ℕ, ◌<◌, ◌≤◌, List, map, length, get_or, Some, None, sym, ap, ◌∙◌}
use Rattle.std.specs.Option.{option_map, option_and_then}
use Rattle.std.specs.List.{slice_get}
use Rattle.std.proofs.lemmas.Option.{slice_get-map, slice_get-get_or, slice_get_past}
use Rattle.std.proofs.lemmas.List.FromFn.{length-map-range_with_len}
use Rattle.sources.specs.declared.places.Place.{Place}
use Rattle.sources.specs.Meaning.{row_len, entry_at}
use Rattle.sources.specs.Travel.{worth_between, no_place, position_row, positions_of}
use Rattle.sources.specs.Laws.Indexed.{nth_made, nth_not_made}

module _ (carriers jobs : List Place) (reach i : ℕ) where
  no_row : length carriers ≤ i → slice_get (map (position_row reach jobs) carriers) i ≡ None
  no_row l = slice_get-map (position_row reach jobs) carriers i ∙ ap (option_map (position_row reach jobs)) (slice_get_past carriers i l)

  the_row : i < length carriers → slice_get (map (position_row reach jobs) carriers) i ≡ Some (position_row reach jobs (get_or carriers i no_place))
  the_row l = slice_get-map (position_row reach jobs) carriers i ∙ ap (option_map (position_row reach jobs)) (slice_get-get_or carriers i no_place l)

  pub no_row_len : length carriers ≤ i → None ≡ row_len (positions_of carriers jobs reach) i
  no_row_len l = sym (ap (option_map length) (no_row l))

  pub row_len_lem : i < length carriers → Some (length jobs) ≡ row_len (positions_of carriers jobs reach) i
  row_len_lem l = sym (ap (option_map length) (the_row l) ∙ ap Some (length-map-range_with_len (λ j. (j, worth_between reach (get_or carriers i no_place) (get_or jobs j no_place))) 0 (length jobs)))

  module _ (k : ℕ) where
    pub no_job : i < length carriers → length jobs ≤ k → None ≡ entry_at (positions_of carriers jobs reach) i k
    no_job l m =
        sym (ap (option_and_then (λ row. slice_get row k)) (the_row l) ∙ nth_not_made (λ j. (j, worth_between reach (get_or carriers i no_place) (get_or jobs j no_place))) (length jobs) k m)

    pub the_entry : (from to : Place) (w : ℕ) → i < length carriers → k < length jobs → from ≡ get_or carriers i no_place → to ≡ get_or jobs k no_place → w ≡ worth_between reach from to → Some (k, w) ≡ entry_at (positions_of carriers jobs reach) i k
    the_entry from to w l m p q e =
        ap (λ v. Some (k, v)) (e ∙ ap (λ x. worth_between reach x to) p ∙ ap (worth_between reach (get_or carriers i no_place)) q)
        ∙ sym (ap (option_and_then (λ row. slice_get row k)) (the_row l) ∙ nth_made (λ j. (j, worth_between reach (get_or carriers i no_place) (get_or jobs j no_place))) (length jobs) k m)
