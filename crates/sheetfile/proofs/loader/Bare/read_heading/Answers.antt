use Rattle.std.proofs.Common.{ℕ, length, Bor, List, sym, ap, ◌∙◌, subst, arith}
use Rattle.sources.specs.Tables.{heading_of}
use Rattle.sources.specs.declared.records.Heading.{Heading}
use Rattle.sheetfile.specs.Begun.{Begun}
use Rattle.sheetfile.proofs.Begun.{begun_first, heading_there}
use Rattle.sheetfile.proofs.Held.{holds_none}
use Rattle.sheetfile.proofs.Once.{heading_fits}
use Rattle.sheetfile.proofs.Readers.{heading_from_start, reads_err, reads_ok}
use Rattle.sheetfile.proofs.Steps.{err_not_ok, ok_same}
use Rattle.sheetfile.proofs.loader.Bare.read_heading.Goals as goal

pub invariant_of-result : goal.invariant_of-result
invariant_of-result c =
    let bs = c.args.self.bytes.now in
    let r = reads_ok c.in-Ok.ensures in
    let is = heading_from_start c.new-reader.result bs (length c.args.starts.now) (ap (λ b. b.now) c.new-reader.ensures.bytes) c.new-reader.ensures.place ∙ r.0 in
    record {
      begun = subst (λ (b : Bor (List ℕ)). ∥ Begun b.now c.heading.new.self.at c.in-Ok.heading 0 0 ∥₁) (sym (r.1 ∙ c.new-reader.ensures.bytes))
          (begun_first bs c.args.self.small (length c.args.starts.now) c.in-Ok.heading c.heading.new.self.at is);
    }

pub returns-in-Err-clause-every : goal.returns-in-Err-clause-every
returns-in-Err-clause-every c m file enough =
    let bs = c.args.self.bytes.now in
    let is = heading_from_start c.new-reader.result bs (length c.args.starts.now) (ap (λ b. b.now) c.new-reader.ensures.bytes) c.new-reader.ensures.place ∙ (reads_err c.in-Err.ensures).0 in
    let k = heading_there bs m (length c.args.starts.now) file enough in
    err_not_ok c.in-Err.fault (heading_of m, k.0) (sym is ∙ k.1)

pub returns-in-Ok-clause-every : goal.returns-in-Ok-clause-every
returns-in-Ok-clause-every c m file enough =
    let bs = c.args.self.bytes.now in
    let is = heading_from_start c.new-reader.result bs (length c.args.starts.now) (ap (λ b. b.now) c.new-reader.ensures.bytes) c.new-reader.ensures.place ∙ (reads_ok c.in-Ok.ensures).0 in
    let k = heading_there bs m (length c.args.starts.now) file enough in
    ap (λ (x : Heading × ℕ). x.0) (ok_same (c.in-Ok.heading, c.heading.new.self.at) (heading_of m, k.0) (sym is ∙ k.1))

pub returns-in-Ok-clause-held : goal.returns-in-Ok-clause-held
returns-in-Ok-clause-held c m entries =
    holds_none m c.args.starts.now entries (omega (arith, heading_fits c.new-reader.result.bytes.now (length c.args.starts.now) c.new-reader.result.at (c.in-Ok.heading, c.heading.new.self.at) (reads_ok c.in-Ok.ensures).0))
