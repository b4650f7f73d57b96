-- A main stream before its first byte.
use Rattle.std.proofs.Common.{refl, arith}
use Rattle.std.specs.Prelude.{◌≡◌, None, []}
use Rattle.mig_mem.specs.PageSize.{IsPageSize}
use Rattle.mig_stream.specs.declared.item.StreamState.TheVariants.{Reading}
use Rattle.mig_stream.specs.Progress.{StreamProgress, start}
use Rattle.mig_stream.specs.Reading.{StreamReading}
use Rattle.mig_stream.proofs.Feeding.{reads_short}
use Rattle.mig_load_types.specs.declared.settings.LoadSettings.{LoadSettings}
use Rattle.mig_load_types.specs.Settings.{mode_of}
use Rattle.mig_answer.specs.Texts.{no_text, IsMainReading}
use Rattle.mig_answer.proofs.OneAnswer.{same_main}

-- what no bytes say
abbrev pub nothing_read : StreamReading
nothing_read = record { table = None; rounds = []; state = Reading }

-- a main stream without bytes reads so
pub main_nothing : (given : LoadSettings) (reading : StreamReading) → IsPageSize given.page_size → IsMainReading given no_text reading → reading ≡ nothing_read
main_nothing given reading size is =
    let begin : StreamProgress = start given.frame (mode_of given.round_end) given.page_size given.limit given.waiting in
    same_main given no_text reading nothing_read size is (record {
      found = nothing_read;
      is_reading = record { to = begin; rest = []; reads = reads_short begin [] (omega arith); has_table = refl; has_rounds = refl };
      has_end = refl;
    })
