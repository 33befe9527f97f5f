-- What is printed of calls is read back.
use Rattle.std.proofs.Common.{◌≡◌, ℕ, ◌+◌, ◌^◌, ◌<◌, ◌≤◌, Bool, true, false, not, eqb, leb, List, [], ◌∷◌, ◌++◌, length, get_or, Some, Ok, codes, decimal, sym, refl, ap, ◌∙◌, arith}
use Rattle.std.proofs.lemmas.Fmt.{decimal_nonempty, digits_decimal, digits_value-decimal}
use Rattle.std.proofs.lemmas.List.{append_assoc, append-nil}
use Rattle.std.proofs.lemmas.List.Splits.{slice_split_at, slice_split_none}
use Rattle.std.specs.Option.{option_and_then}
use Rattle.std.proofs.lemmas.Bool.{and_from, and_parts, cond-false, le-ltb, leb-true, ne_eqb, not_from_false, not-true}
use Rattle.std.specs.Char.{is_ascii_digit}
use Rattle.std.specs.List.{All, AllByRecursion, list_all}
use Rattle.std.proofs.lemmas.List.Folds.{list_all-append}
use Rattle.std.proofs.lemmas.List.Sums.{AllPass-from_list_all}
use Rattle.std.specs.Str.{all_ascii_digits}
use Rattle.auction.specs.declared.calls.Call.{Call}
use Rattle.auction.specs.declared.calls.Call.TheVariants.{Start, Summon, Look, Settle, Run, PriceOf, HolderOf, StandingOf, TotalWorth, AllCounts}
use Rattle.replaying.specs.declared.line.Said.TheVariants.{Make, Skip}
use Rattle.replaying.specs.Lines.{said_by, said_by_words, said_of_one, said_of_two}
use Rattle.replaying.specs.Logs.{asked_from, asked_in, no_layers, noted}
use Rattle.replaying.specs.Numerals.{number_in}
use Rattle.replaying.specs.Parts.{lines_of, parts_of, words_of}
use Rattle.replaying.specs.ReadBack.{ReadsBack, Sized, plain_line, plain_log}
use Rattle.auction.specs.Shown.{call_text}
use Rattle.texts.specs.Telling.{newline}
use Rattle.replaying.proofs.LinesLeft.{asked_all, asked_more}
use Rattle.replaying.proofs.Values.{own, some_value}

-- ---- parts

abbrev lacks : ℕ → List ℕ → Bool
lacks sep bs = list_all (λ b. not (eqb b sep)) bs

lacks_append : (sep : ℕ) (a b : List ℕ) → lacks sep a ≡ true → lacks sep b ≡ true → lacks sep (a ++ b) ≡ true
lacks_append sep a b h k = list_all-append (λ x. not (eqb x sep)) a b ∙ and_from (lacks sep a) (lacks sep b) h k

lacks_all : (sep : ℕ) (w : List ℕ) → lacks sep w ≡ true → All (λ b. eqb b sep ≡ false) w
lacks_all sep w h k d l = not-true (eqb (get_or w k d) sep) (AllPass-from_list_all (λ b. not (eqb b sep)) w h k d l)

-- a part with a separator behind it
part_cut : (sep : ℕ) (w rest : List ℕ) → lacks sep w ≡ true → eqb sep sep ≡ true → parts_of sep (w ++ (sep ∷ rest)) ≡ w ∷ parts_of sep rest
part_cut sep w rest h e = slice_split_at (λ b. eqb b sep) w sep rest (lacks_all sep w h) e

-- one part
part_whole : (sep : ℕ) (w : List ℕ) → lacks sep w ≡ true → parts_of sep w ≡ w ∷ []
part_whole sep w h = slice_split_none (λ b. eqb b sep) w (lacks_all sep w h)

-- ---- numbers

number_back : (n : ℕ) → n < 2 ^ 64 → number_in (decimal n) ≡ Some n
number_back n h = some_value (decimal n) n (digits_decimal own n h) (decimal_nonempty n h) (digits_value-decimal own n h) h

digits_lack : (sep : ℕ) (ds : List ℕ) → sep < 48 → all_ascii_digits ds ≡ true → lacks sep ds ≡ true
digits_lack sep [] s h = refl
digits_lack sep (d ∷ ds) s h =
    let p = and_parts (is_ascii_digit d) (all_ascii_digits ds) h in
    let low : 48 ≤ d = leb-true 48 d (and_parts (leb 48 d) (leb d 57) p.0).0 in
    and_from (not (eqb d sep)) _ (not_from_false (eqb d sep) (ne_eqb d sep (λ e. omega arith))) (digits_lack sep ds s p.1)

decimal-lacks : (sep n : ℕ) → sep < 48 → n < 2 ^ 64 → lacks sep (decimal n) ≡ true
decimal-lacks sep n s h = digits_lack sep (decimal n) s (digits_decimal own n h)

-- ---- a line

module _ (w : List ℕ) (free : lacks 32 w ≡ true) where
  one_back : (n : ℕ) → n < 2 ^ 64 → said_by_words (words_of (w ++ (32 ∷ decimal n))) ≡ said_of_one w n
  one_back n h =
      ap said_by_words (part_cut 32 w (decimal n) free refl ∙ ap (λ ws. w ∷ ws) (part_whole 32 (decimal n) (decimal-lacks 32 n (omega arith) h)))
      ∙ ap (option_and_then (said_of_one w)) (number_back n h)

  two_back : (m n : ℕ) → m < 2 ^ 64 → n < 2 ^ 64 → said_by_words (words_of (w ++ (32 ∷ (decimal m ++ (32 ∷ decimal n))))) ≡ said_of_two w m n
  two_back m n h k =
      ap said_by_words (part_cut 32 w (decimal m ++ (32 ∷ decimal n)) free refl
      ∙ ap (λ ws. w ∷ ws) (part_cut 32 (decimal m) (decimal n) (decimal-lacks 32 m (omega arith) h) refl ∙ ap (λ ws. decimal m ∷ ws) (part_whole 32 (decimal n) (decimal-lacks 32 n (omega arith) k))))
      ∙ ap (option_and_then (λ a. option_and_then (said_of_two w a) (number_in (decimal n)))) (number_back m h) ∙ ap (option_and_then (said_of_two w m)) (number_back n k)

pub call_back : (c : Call) → Sized c → said_by (call_text c) ≡ Some (Make c)
unfolding said_by
call_back (Start step lanes) s = two_back (codes "start") refl step lanes s.0 s.1
call_back (Summon i) s = one_back (codes "summon") refl i s
call_back (Look i) s = one_back (codes "look") refl i s
call_back (Settle i) s = one_back (codes "settle") refl i s
call_back (Run depth budget) s = two_back (codes "run") refl depth budget s.0 s.1
call_back (PriceOf j) s = one_back (codes "price") refl j s
call_back (HolderOf j) s = one_back (codes "holder") refl j s
call_back (StandingOf i) s = one_back (codes "standing") refl i s
call_back TotalWorth s = ap said_by_words (part_whole 32 (codes "worth") refl)
call_back AllCounts s = ap said_by_words (part_whole 32 (codes "counts") refl)

-- ---- a log

one_line : (w : List ℕ) → lacks 10 w ≡ true → (n : ℕ) → n < 2 ^ 64 → lacks 10 (w ++ decimal n) ≡ true
one_line w h n k = lacks_append 10 w (decimal n) h (decimal-lacks 10 n (omega arith) k)

call_line : (c : Call) → Sized c → lacks 10 (call_text c) ≡ true
call_line (Start step lanes) s = lacks_append 10 (codes "start ") (decimal step ++ (codes " " ++ decimal lanes)) refl (lacks_append 10 (decimal step) (codes " " ++ decimal lanes) (decimal-lacks 10 step (omega arith) s.0) (one_line (codes " ") refl lanes s.1))
call_line (Summon i) s = one_line (codes "summon ") refl i s
call_line (Look i) s = one_line (codes "look ") refl i s
call_line (Settle i) s = one_line (codes "settle ") refl i s
call_line (Run depth budget) s = lacks_append 10 (codes "run ") (decimal depth ++ (codes " " ++ decimal budget)) refl (lacks_append 10 (decimal depth) (codes " " ++ decimal budget) (decimal-lacks 10 depth (omega arith) s.0) (one_line (codes " ") refl budget s.1))
call_line (PriceOf j) s = one_line (codes "price ") refl j s
call_line (HolderOf j) s = one_line (codes "holder ") refl j s
call_line (StandingOf i) s = one_line (codes "standing ") refl i s
call_line TotalWorth s = refl
call_line AllCounts s = refl

lines_of_lem : (c : Call) (rest : List ℕ) → Sized c → lines_of (plain_line c ++ rest) ≡ call_text c ∷ lines_of rest
lines_of_lem c rest s = ap lines_of (append_assoc (call_text c) newline rest) ∙ part_cut 10 (call_text c) rest (call_line c s) refl

blank : said_by [] ≡ Some Skip
unfolding said_by
blank = refl

asked_back : (n : ℕ) (before calls : List Call) → AllByRecursion Sized calls → asked_from n (record { layers = no_layers; calls = before }) (lines_of (plain_log calls)) ≡ Ok (record { layers = no_layers; calls = before ++ calls })
asked_back n before [] s =
    asked_more n _ _ [] [] (ap (option_and_then (λ said. noted said (record { layers = no_layers; calls = before }))) blank) ∙ asked_all (n + 1) _ ∙ ap (λ cs. Ok (record { layers = no_layers; calls = cs })) (sym (append-nil before))
asked_back n before (c ∷ calls) s =
    ap (asked_from n (record { layers = no_layers; calls = before })) (lines_of_lem c (plain_log calls) s.0)
    ∙ asked_more n _ _ (call_text c) (lines_of (plain_log calls)) (ap (option_and_then (λ said. noted said (record { layers = no_layers; calls = before }))) (call_back c s.0))
    ∙ asked_back (n + 1) (before ++ (c ∷ [])) calls s.1
    ∙ ap (λ cs. Ok (record { layers = no_layers; calls = cs })) (append_assoc before (c ∷ []) calls)

pub log_back : (calls : List Call) → AllByRecursion Sized calls → length (plain_log calls) ≤ 65536 → asked_in (plain_log calls) ≡ Ok (record { layers = no_layers; calls = calls })
unfolding asked_in
log_back calls s h = cond-false _ _ _ (le-ltb 65536 (length (plain_log calls)) h) ∙ asked_back 1 [] calls s

pub reads_back : ReadsBack
reads_back = record { call = call_back; log = log_back }
