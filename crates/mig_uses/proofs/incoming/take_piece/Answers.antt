use Rattle.std.proofs.Common.{◌≡◌, subst, ◌++◌, List, ℕ, Result, true, false}
use Rattle.std.specs.Prelude.{⊤}
use Rattle.mig_stream.proofs.Exists.{one_reading_law}
use Rattle.mig_stream.proofs.Longer.{longer_law}
use Rattle.mig_load_types.specs.declared.fault.LoadFault.{LoadFault}
use Rattle.mig_single_load.specs.Loader.{HasVerdict}
use Rattle.mig_uses.proofs.Settling.{own_verdict, whole_stays, refused_stays, coming}
use Rattle.mig_uses.proofs.incoming.take_piece.Goals as goal

pub returns-in-Ok-clause-told : goal.returns-in-Ok-clause-told
returns-in-Ok-clause-told g c = λ given text loads.
    let now : List ℕ = text ++ c.args.piece.now in
    let fed = c.in_ok-feed.ensures.ok given text loads in
    let own = own_verdict one_reading_law given c.feed.new.self now c.verdict.result loads.is_page_size fed.1 (c.verdict.ensures given now _ fed.0) in
    whole_stays one_reading_law longer_law given now c.in-Ok.field-0 loads.is_page_size
    (subst (λ (v : Result ⊤ LoadFault). HasVerdict given now v) c.in-Ok.is own)

pub returns-in-Ok-clause-loads : goal.returns-in-Ok-clause-loads
returns-in-Ok-clause-loads g c = λ given text loads. (c.in_ok-feed.ensures.ok given text loads).0

pub returns-in-Err-clause-told : goal.returns-in-Err-clause-told
returns-in-Err-clause-told g c = λ given text loads.
    let now : List ℕ = text ++ c.args.piece.now in
    let fed = c.in_ok-feed.ensures.ok given text loads in
    let own = own_verdict one_reading_law given c.feed.new.self now c.verdict.result loads.is_page_size fed.1 (c.verdict.ensures given now _ fed.0) in
    coming given now c.in-Err.fault (subst (λ (v : Result ⊤ LoadFault). HasVerdict given now v) c.in-Err.is own)
    (c.is_unfinished.ensures.0 c.if-is_unfinished.true)

pub returns-in-Err-clause-loads : goal.returns-in-Err-clause-loads
returns-in-Err-clause-loads g c = λ given text loads. (c.in_ok-feed.ensures.ok given text loads).0

pub returns-in-Err-2-clause-told : goal.returns-in-Err-2-clause-told
returns-in-Err-2-clause-told g c = λ given text loads.
    let now : List ℕ = text ++ c.args.piece.now in
    let fed = c.in_ok-feed.ensures.ok given text loads in
    let own = own_verdict one_reading_law given c.feed.new.self now c.verdict.result loads.is_page_size fed.1 (c.verdict.ensures given now _ fed.0) in
    refused_stays one_reading_law longer_law given now c.in-Err.fault loads.is_page_size
    (subst (λ (v : Result ⊤ LoadFault). HasVerdict given now v) c.in-Err.is own)
    (λ is. let yes : c.is_unfinished.result ≡ true = c.is_unfinished.ensures.1 is in let no : c.is_unfinished.result ≡ false = c.if-is_unfinished.false in cc)

pub returns-in-Err-2-clause-loads : goal.returns-in-Err-2-clause-loads
returns-in-Err-2-clause-loads g c = λ given text loads. (c.in_ok-feed.ensures.ok given text loads).0
