use Rattle.std.proofs.Common.{ℕ, [], arith}
use Rattle.std.proofs.lemmas.List.{get_or-replicate}
use Rattle.records.proofs.Records.{admitted-same, stands-start}
use Rattle.records.proofs.begin.begin.Goals as goal

pub returns-clause-keeps : goal.returns-clause-keeps
returns-clause-keeps c =
    let args = c.args in
    let padded = c.pad-anchored.ensures in
    record {
      right = record {
        admitted = admitted-same _ _ _ _ padded.same (omega arith) c.requires.admitted;
        columns = c.refresh-columns.ensures;
        bares = c.fill_bare.ensures;
        counts = c.count_rows.ensures.followers;
        counts_long = omega arith;
        reaches = c.count_rows.ensures.reached;
        reaches_long = omega arith;
        stamps_long = omega arith;
      };
      stands = stands-start args.starts.now args.links.now args.given.now [] _ padded.same (λ v h. get_or-replicate {A = ℕ} 1024 v 0 0 (omega arith));
    }
