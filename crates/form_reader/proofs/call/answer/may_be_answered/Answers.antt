use Rattle.form_reader.proofs.Fits.{answered_so}
use Rattle.form_reader.proofs.call.answer.may_be_answered.Goals as goal

pub returns-clause-value : goal.returns-clause-value
returns-clause-value c = answered_so c.args.packages.now.0 c.args.room c.args.datum.now c.fits.result c.fits.new.left c.fits.ensures.fits c.fits.ensures.others
