use Rattle.std.proofs.Common.{◌≡◌, [], length, sym, subst, arith}
use Rattle.std.proofs.lemmas.List.{length-take-le}
use Rattle.mig_stream.specs.declared.item.Mode.TheVariants.{Single}
use Rattle.mig_stream.specs.Reading.{settings, in_frame}
use Rattle.zimgasol_reading.proofs.Surveying.{on_ok, on_ok_map, if_ok, survey_of, stands_none, header_whole}
use Rattle.zimgasol_reading.specs.declared.tail.Tail.{Tail}
use Rattle.zimgasol_reading.specs.TailSeen.{HasSeen}
use Rattle.zimgasol_reading.proofs.Endings.{begin_sees, ended_of, before_text}
use Rattle.zimgasol_reading.proofs.survey.Survey.read.Goals as goal

pub returns-in-Ok-read-clause-header : goal.returns-in-Ok-read-clause-header
returns-in-Ok-read-clause-header g c = on_ok c.take_course.result (λ text is.
    header_whole c.read_first.new.self.libvirt c.take_course.new.self.libvirt text _ _ _ c.take_course.ensures.libvirt is c.in-Ok.ensures.bytes
    c.in-Ok.ensures.header)

pub returns-in-Ok-read-clause-found : goal.returns-in-Ok-read-clause-found
returns-in-Ok-read-clause-found g c = on_ok c.take_course.result (λ text is few.
    let s = c.read_first.new.self in
    let given = in_frame s.frame (settings Single s.page_size s.limit) in
    (survey_of c.args.self.now s c.take_course.new.self (g.S.PageSink.holds c.read_course-read.result.1) text _ _ _ _ _ _ _ _ _ _ c.requires.limit
    c.in-Ok.ensures.asked c.before-before.ensures c.take_course.ensures.libvirt c.take_course.ensures.state c.take_course.ensures.sections
    c.take_course.ensures.valid c.take_course.ensures.blocks is few c.in-Ok.ensures.bytes
    (λ rest left short. if_ok _ _ _ c.in-Ok-read.is c.read_course-read.ensures.ok given rest left short
    (stands_none _ _ given _ _ _ _ _ _ c.new-noting.ensures.blocks c.new-course.ensures.begun c.new-course.ensures.ok))).0)

pub returns-in-Ok-read-clause-taken : goal.returns-in-Ok-read-clause-taken
returns-in-Ok-read-clause-taken g c = on_ok c.take_course.result (λ text is few.
    let s = c.read_first.new.self in
    let given = in_frame s.frame (settings Single s.page_size s.limit) in
    (survey_of c.args.self.now s c.take_course.new.self (g.S.PageSink.holds c.read_course-read.result.1) text _ _ _ _ _ _ _ _ _ _ c.requires.limit
    c.in-Ok.ensures.asked c.before-before.ensures c.take_course.ensures.libvirt c.take_course.ensures.state c.take_course.ensures.sections
    c.take_course.ensures.valid c.take_course.ensures.blocks is few c.in-Ok.ensures.bytes
    (λ rest left short. if_ok _ _ _ c.in-Ok-read.is c.read_course-read.ensures.ok given rest left short
    (stands_none _ _ given _ _ _ _ _ _ c.new-noting.ensures.blocks c.new-course.ensures.begun c.new-course.ensures.ok))).1)

pub returns-in-Ok-read-clause-before : goal.returns-in-Ok-read-clause-before
returns-in-Ok-read-clause-before g c = on_ok c.take_course.result (λ enough text is.
    let e = c.in-Ok.ensures in
    let full = length-take-le c.in-Ok.len c.read_first.new.buffer e.within in
    before_text text _ _ _ (length c.args.buffer.now) c.read_first.new.self.libvirt c.take_course.new.self.libvirt enough
    c.take_course.ensures.libvirt is e.bytes (λ short. e.end (omega (arith, short, e.room, full))) e.before)

pub returns-in-Ok-read-clause-ended : goal.returns-in-Ok-read-clause-ended
returns-in-Ok-read-clause-ended g c = on_ok_map c.take_course.result c.take_course.ensures.ending (λ ending text is few bytes closed.
    let s = c.read_first.new.self in
    let given = in_frame s.frame (settings Single s.page_size s.limit) in
    let stood = stands_none _ _ given _ _ _ _ _ _ c.new-noting.ensures.blocks c.new-course.ensures.begun c.new-course.ensures.ok in
    ended_of c.args.self.now s c.take_course.new.self _ text _ _ _ _ _ _ _ _ _ _ c.in-Ok.ensures.asked c.before-before.ensures c.take_course.ensures.libvirt
    c.take_course.ensures.state is few bytes closed c.in-Ok.ensures.bytes
    (λ rest left short. if_ok _ _ _ c.in-Ok-read.is c.read_course-read.ensures.ok given rest left short stood)
    (λ checked rest left short. if_ok _ _ _ c.in-Ok-read.is c.read_course-read.ensures.seen given rest left short stood
    (begin_sees _ _ _ _ _ c.new-course.ensures.goes_on c.new-noting.ensures.fed
    (subst (λ (t : Tail). HasSeen [] t) (sym c.new-noting.ensures.tail) (c.new-tail.ensures.seen checked))))
    ending)
