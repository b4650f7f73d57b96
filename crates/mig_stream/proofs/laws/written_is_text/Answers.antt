use Rattle.mig_stream.proofs.WrittenText.{written_single, written_main}
use Rattle.mig_stream.proofs.WrittenPages.{written_pages}
use Rattle.mig_stream.proofs.laws.written_is_text.Goals as goal

pub returns-clause-single : goal.returns-clause-single
returns-clause-single c = λ limit table rounds is room lawful. written_single table rounds limit is room lawful

pub returns-clause-main : goal.returns-clause-main
returns-clause-main c = λ limit table n is room. written_main table n limit is room

pub returns-clause-pages : goal.returns-clause-pages
returns-clause-pages c = written_pages
