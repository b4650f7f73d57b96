use Rattle.std.proofs.Common.{ℕ, List, None, true, inr, arith}
use Rattle.mig_stream.specs.Reader.{Reader, nothing_yet, with_piece, Stands}
use Rattle.mig_mem.specs.PageSize.{IsPageSize}
use Rattle.mig_load_types.specs.Settings.{single_of}
use Rattle.mig_load_types.specs.declared.settings.LoadSettings.{LoadSettings}
use Rattle.mig_single_load.specs.Loader.{loader, put_so_far, WasFed}
use Rattle.mig_single_load.proofs.Sections.{none_put, load_answers}
use Rattle.mig_single_load.proofs.single.load.Goals as goal

pub returns-in_default : goal.returns-in_default
returns-in_default g c = inr (rw c.without_memory.ensures (none_put c.args.settings c.args.text.now c.requires.page_size))

-- before the first section
fed_whole : (given : LoadSettings) (text : List ℕ) (r : Reader) → IsPageSize given.page_size
    → Stands (single_of given) (put_so_far text true 0) r → WasFed given (loader r None) text true
fed_whole given text r size stands = record { is_page_size = size; stands = stands; has_first = tt }

pub settle-requires : goal.settle-requires
settle-requires g c =
    let given = c.args.settings in
    let text = c.args.text.now in
    record {
      given = given;
      text = text;
      ended = true;
      is_short = omega arith;
      has_fed = fed_whole given text c.end.new.self c.requires.page_size
          (c.end.ensures.stands (single_of given) (with_piece text nothing_yet) c.in-Ok.ensures.stands);
    }

pub returns-in_default-settle : goal.returns-in_default-settle
returns-in_default-settle g c = inr (rw c.without_memory-in_default-settle.ensures (none_put c.args.settings c.args.text.now c.requires.page_size))

pub returns : goal.returns
returns g c =
    let given = c.args.settings in
    let text = c.args.text.now in
    let fed = fed_whole given text c.end.new.self c.requires.page_size
    (c.end.ensures.stands (single_of given) (with_piece text nothing_yet) c.in-Ok.ensures.stands) in
    let loads = (c.in-Ok-settle.ensures.ok given text true fed).0 in
    load_answers given (loader c.settle.new.reader c.settle.new.target) text c.answer.result c.requires.page_size (c.answer.ensures given text true loads)
