use Rattle.std.proofs.Common.{◌∙◌, Bool, ap, sym, subst}
use Rattle.std.specs.Prelude.{not}
use Rattle.mig_mapped.specs.Write.{PutsBit}
use Rattle.mig_mapped.proofs.Marking.{zeros_found}
use Rattle.mig_mapped.proofs.write.MappedWriter.put.Goals as goal

pub returns-then-is_zero-clause-bit : goal.returns-then-is_zero-clause-bit
returns-then-is_zero-clause-bit g c =
    subst (λ (t : Bool). PutsBit c.args.self.now c.args.place (not t) c.mark.new.self) c.is_zero_page-is_zero.ensures c.mark.ensures.bit

pub returns-clause-bit : goal.returns-clause-bit
returns-clause-bit g c =
    subst (λ (t : Bool). PutsBit c.args.self.now c.args.place (not t) c.mark.new.self) c.is_zero_page-is_zero.ensures c.mark.ensures.bit

pub returns-then-is_zero-clause-memory : goal.returns-then-is_zero-clause-memory
returns-then-is_zero-clause-memory g c = λ m stands. c.mark.ensures.memory m c.args.content.now stands c.requires.len
    (λ none. zeros_found c.args.content.now c.args.self.now.given.page_size c.requires.len (ap not (sym c.is_zero_page-is_zero.ensures) ∙ none))

pub returns-clause-memory : goal.returns-clause-memory
returns-clause-memory g c = λ m stands. c.mark.ensures.memory m c.args.content.now stands c.requires.len
    (λ none. zeros_found c.args.content.now c.args.self.now.given.page_size c.requires.len (ap not (sym c.is_zero_page-is_zero.ensures) ∙ none))
