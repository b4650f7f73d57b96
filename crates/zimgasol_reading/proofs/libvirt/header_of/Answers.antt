use Rattle.std.proofs.Common.{◌≡◌, take, sym, ap, ◌∙◌, subst, arith}
use Rattle.std.proofs.lemmas.Bool.Decides.{Decides-eqb}
use Rattle.std.proofs.lemmas.Slice.Eq.{slice_eq-Decides}
use Rattle.zimgasol_reading.proofs.libvirt.header_of.Goals as goal

pub returns-clause-header : goal.returns-clause-header
returns-clause-header c =
    let h = c.in_ok-read_header.ensures in
    record {
      is_little = h.0;
      has_header = omega (arith, c.if-bytes-lt-HEADER_LEN.false);
      has_magic = sym ((slice_eq-Decides Decides-eqb _ _ _ c.starts_with-2.ensures.value).0 c.if-not-starts_with.false);
      has_version = h.1;
      has_format = h.2;
      has_length = h.3;
    }
