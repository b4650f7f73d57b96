use Rattle.std.proofs.Common.{◌≡◌, ◌++◌, ◌-◌, ℕ, List, ap, length, rules, arith}
use Rattle.std.proofs.lemmas.List.{length-append}
use Rattle.mig_stream.specs.Kept.{bytes_of}
use Rattle.mig_stream.specs.Giving.{Giver}
use Rattle.mig_stream.proofs.Closing.{front_given, valid_given}
use Rattle.mig_stream.proofs.record_reader.RecordReader.valid_up_to.Goals as goal

pub returns-clause-front : goal.returns-clause-front
returns-clause-front g c =
    let count : c.len.result ≡ length c.self.inside.pending.items = search rules in
    let rest : c.self.inside.pending.items ++ bytes_of c.self.inside.rest ≡ c.args.self.now.rest = ap (λ (x : Giver). x.rest) c.self.view_is in
    let fed : c.self.inside.fed ≡ c.args.self.now.fed = ap (λ (x : Giver). x.fed) c.self.view_is in
    let is : c.saturating_sub.result ≡ c.args.self.now.fed - length c.args.self.now.rest =
    omega (
      arith,
      c.saturating_sub.ensures,
      count,
      fed,
      ap (λ (x : List ℕ). length x) rest,
      length-append c.self.inside.pending.items (bytes_of c.self.inside.rest),
      ap (λ (x : List ℕ). length x) c.bytes.ensures,
    ) in
    front_given c.args.self.now c.saturating_sub.result is

pub returns-clause-end : goal.returns-clause-end
returns-clause-end g c some =
    let count : c.len.result ≡ length c.self.inside.pending.items = search rules in
    let rest : c.self.inside.pending.items ++ bytes_of c.self.inside.rest ≡ c.args.self.now.rest = ap (λ (x : Giver). x.rest) c.self.view_is in
    let fed : c.self.inside.fed ≡ c.args.self.now.fed = ap (λ (x : Giver). x.fed) c.self.view_is in
    let is : c.saturating_sub.result ≡ c.args.self.now.fed - length c.args.self.now.rest =
    omega (
      arith,
      c.saturating_sub.ensures,
      count,
      fed,
      ap (λ (x : List ℕ). length x) rest,
      length-append c.self.inside.pending.items (bytes_of c.self.inside.rest),
      ap (λ (x : List ℕ). length x) c.bytes.ensures,
    ) in
    valid_given c.args.self.now c.saturating_sub.result is some
